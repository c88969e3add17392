use Rattle.std.proofs.Common.{arith}
use Rattle.std.proofs.lemmas.Bool.Decides.{nat_tests}
use Rattle.bit_places.specs.Places.{third}
use Rattle.bits.proofs.places.Layout.third.Goals as goal

pub returns-then-places-eq3-clause-is : goal.returns-then-places-eq3-clause-is
unfolding third
returns-then-places-eq3-clause-is c = let e = c.places.ensures in let t = c.if-places-eq3.true in grind (arith, nat_tests)

pub returns-else-places-eq3-clause-is : goal.returns-else-places-eq3-clause-is
unfolding third
returns-else-places-eq3-clause-is c = let e = c.places.ensures in let t = c.if-places-eq3.false in grind (arith, nat_tests)

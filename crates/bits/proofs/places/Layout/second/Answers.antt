use Rattle.std.proofs.Common.{arith}
use Rattle.std.proofs.lemmas.Bool.Decides.{nat_tests}
use Rattle.bit_places.specs.Places.{second}
use Rattle.bits.proofs.places.Layout.second.Goals as goal

pub returns-then-places-eq1-clause-is : goal.returns-then-places-eq1-clause-is
unfolding second
returns-then-places-eq1-clause-is c = let e = c.places.ensures in let t = c.if-places-eq1.true in grind (arith, nat_tests)

pub returns-else-places-eq1-clause-is : goal.returns-else-places-eq1-clause-is
unfolding second
returns-else-places-eq1-clause-is c = let e = c.places.ensures in let t = c.if-places-eq1.false in grind (arith, nat_tests)

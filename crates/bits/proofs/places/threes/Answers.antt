use Rattle.std.proofs.Common.{arith}
use Rattle.bit_places.specs.Kinds.{threes}
use Rattle.bits.proofs.places.threes.Goals as goal

pub returns-clause-is : goal.returns-clause-is
unfolding threes
returns-clause-is c = omega (arith, c.past.ensures.is, c.past-2.ensures.is, c.past-3.ensures.is, c.past-4.ensures.is, c.past-5.ensures.is)

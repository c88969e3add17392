use Rattle.std.proofs.Common.{◌-◌, arith}
use Rattle.bit_places.proofs.Bases.{base_fits, base_is, fewer}
use Rattle.bits.proofs.places.Layout.base.Goals as goal

pub overflow_sub-twos-2 : goal.overflow_sub-twos-2
overflow_sub-twos-2 c = let f = fewer c.args.relation in omega (arith, c.past-ones.ensures.is, c.threes-threes.ensures.is)

pub returns-clause-is : goal.returns-clause-is
returns-clause-is c = base_is c.args.self.width c.args.relation c.past-ones.result c.threes-threes.result c.past-ones.ensures.is c.threes-threes.ensures.is

pub returns-clause-most : goal.returns-clause-most
returns-clause-most c = base_fits c.args.self.width c.past-ones.result (c.args.relation - c.past-ones.result - c.threes-threes.result) c.threes-threes.result c.args.self.narrow c.past-ones.ensures.most (omega arith) c.threes-threes.ensures.most

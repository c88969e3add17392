use Rattle.std.proofs.Common.{rules}
use Rattle.bit_places.proofs.Sizes.{Made, made}
use Rattle.bits.proofs.places.Layout.row_at.Goals as goal
use Rattle.bits.proofs.places.Layout.row_at.Goals.{After-base}

all : (c : After-base) → Made c.args.self.width c.args.i c.relation_at-k.result c.second.result c.third-t.result c.base.result
all c = made c.args.self.width c.args.i c.args.self.narrow c.requires _ _ _ _ c.relation_at-k.ensures.is c.second.ensures.is c.third-t.ensures.is c.base.ensures.is

pub nonzero_div-result : goal.nonzero_div-result
nonzero_div-result c = (all c).pair_pos

pub overflow_cast-result : goal.overflow_cast-result
overflow_cast-result c = let p = (all c).a_small in search rules

pub nonzero_rem-result : goal.nonzero_rem-result
nonzero_rem-result c = (all c).pair_pos

pub nonzero_div-result-2 : goal.nonzero_div-result-2
nonzero_div-result-2 c = (all c).third_pos

pub overflow_cast-result-2 : goal.overflow_cast-result-2
overflow_cast-result-2 c = let p = (all c).b_small in search rules

pub nonzero_rem-result-2 : goal.nonzero_rem-result-2
nonzero_rem-result-2 c = (all c).pair_pos

pub nonzero_rem-result-3 : goal.nonzero_rem-result-3
nonzero_rem-result-3 c = (all c).third_pos

pub overflow_cast-result-3 : goal.overflow_cast-result-3
overflow_cast-result-3 c = let p = (all c).c_small in search rules

pub returns : goal.returns
returns c = (all c).is

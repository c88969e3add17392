use Rattle.std.proofs.Common.{length, vec_items}
use Rattle.rows.specs.Rows.{rest, of_relation}
use Rattle.listing.proofs.InOrder.{Reading}
use Rattle.listing.proofs.reading.read_relation.Given as goal

abbrev pub invariant-loop-r : goal.invariant-loop-r
invariant-loop-r g l = Reading l.relation (g.T.Table.means.rows l.t) (vec_items l.initial.found) (vec_items l.found) l.from

abbrev pub decreases-loop-r : goal.decreases-loop-r
decreases-loop-r g l = length (rest l.from (of_relation l.relation (g.T.Table.means.rows l.t)))

use Rattle.std.proofs.Common.{length}
use Rattle.rows.specs.Rows.{rest}
use Rattle.rows.proofs.Leaping.{Come}
use Rattle.counting.proofs.CountedTable.next_like.Given as goal

abbrev pub invariant-loop-r : goal.invariant-loop-r
invariant-loop-r g l = Come (g.T.Table.means.rows l.self.below) (g.met.T.Table.lawful l.self.below).ascending l.from l.like l.at

abbrev pub decreases-loop-r : goal.decreases-loop-r
decreases-loop-r g l = length (rest l.at (g.T.Table.means.rows l.self.below))

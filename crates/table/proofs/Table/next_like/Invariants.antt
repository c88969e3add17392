use Rattle.std.proofs.Common.{length}
use Rattle.rows.specs.Rows.{rest}
use Rattle.rows.proofs.Leaping.{Come}
use Rattle.table.proofs.Table.next_like.Given as goal

abbrev pub invariant-loop-start : goal.invariant-loop-start
invariant-loop-start g l = Come (g.Self.Table.means.rows l.self) (g.met.Self.Table.lawful l.self).ascending l.from l.like l.at

abbrev pub decreases-loop-start : goal.decreases-loop-start
decreases-loop-start g l = length (rest l.at (g.Self.Table.means.rows l.self))

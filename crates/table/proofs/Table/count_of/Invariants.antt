use Rattle.std.proofs.Common.{◌≡◌, ◌+◌, length}
use Rattle.rows.specs.Rows.{of_relation, rest}
use Rattle.table.proofs.Table.count_of.Given as goal

abbrev pub invariant-loop-r : goal.invariant-loop-r
invariant-loop-r g l =
    let xs = g.Self.Table.means.rows l.self in
    (l.from.relation ≡ l.relation)
    × (l.n + length (of_relation l.relation (rest l.from xs)) ≡ length (of_relation l.relation xs))

abbrev pub decreases-loop-r : goal.decreases-loop-r
decreases-loop-r g l = length (rest l.from (g.Self.Table.means.rows l.self))

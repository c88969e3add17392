use Rattle.std.proofs.Common.{◌≡◌, length, take}
use Rattle.rows.specs.Adding.{Filled, taken}
use Rattle.table.proofs.adding.add_each.Given as goal

abbrev pub invariant-loop-r : goal.invariant-loop-r
invariant-loop-r g l =
    Filled g.T.Table.means (g.T.Table.means.bounds l.initial.t) l.initial.t (take l.r-index l.batch) l.t
    × (l.added ≡ length (taken (g.T.Table.means.bounds l.initial.t) (g.T.Table.means.rows l.initial.t) (take l.r-index l.batch)))

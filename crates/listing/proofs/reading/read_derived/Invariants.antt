use Rattle.std.proofs.Common.{◌≡◌, ◌++◌, vec_items}
use Rattle.rows.specs.Rows.{rest, start}
use Rattle.listing.proofs.reading.read_derived.Given as goal

abbrev pub invariant-loop-relation : goal.invariant-loop-relation
invariant-loop-relation g l =
    vec_items l.found ++ rest (start l.relation) (g.T.Table.means.rows l.t) ≡ rest (start 18) (g.T.Table.means.rows l.t)

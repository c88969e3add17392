use Rattle.std.proofs.Common.{◌≡◌, ◌≤◌, ◌==◌, count_by, take}
use Rattle.rows.specs.Words.{row_of}
use Rattle.list.proofs.List.related.Given as goal

abbrev pub invariant-loop-words : goal.invariant-loop-words
invariant-loop-words l =
    (l.n ≡ count_by (λ w. (row_of w).relation == l.relation) (take l.words-index l.words-items)) × (l.n ≤ l.words-index)

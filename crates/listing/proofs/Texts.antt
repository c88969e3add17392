-- Rows and facts as text: the lines of rows, one row after another, and the mark of a fact.
use Rattle.std.proofs.Common.{◌≡◌, ℕ, ◌+◌, ◌<◌, ◌≤◌, List, [], ◌∷◌, ◌++◌, length, get_or, take, ap, sym, ◌∙◌, append_assoc, append-nil, arith}
use Rattle.std.proofs.lemmas.List.{take_more, get_or_past}
use Rattle.std.proofs.lemmas.Bool.Decides.{nat_tests}
use Rattle.rows.specs.declared.row.Row.{Row}
use Rattle.facts.specs.Format.{mark}
use Rattle.listing.specs.Text.{line_of, lines_of}

lines_push : (rs : List Row) (r : Row) → lines_of (rs ++ r ∷ []) ≡ lines_of rs ++ line_of r
lines_push [] r = append-nil (line_of r)
lines_push (x ∷ rs) r = ap (λ z. line_of x ++ z) (lines_push rs r) ∙ sym (append_assoc (line_of x) (lines_of rs) (line_of r))

pub lines_more : (rs : List Row) (i : ℕ) (d : Row) → i < length rs → lines_of (take (i + 1) rs) ≡ lines_of (take i rs) ++ line_of (get_or rs i d)
lines_more rs i d h = ap lines_of (take_more rs i d h) ∙ lines_push (take i rs) (get_or rs i d)

-- the mark of any relation
pub mark_told : (k : ℕ) (m : List ℕ) → (k < 18 → m ≡ mark k) → (18 ≤ k → m ≡ []) → m ≡ mark k
mark_told k m fact none = grind (arith, nat_tests, get_or_past)

-- Bits set one after another.
use Rattle.std.proofs.Common.{◌≡◌, ℕ, List, [], ◌∷◌, ap, ◌∙◌}
use Rattle.rows.specs.declared.row.Row.{Row}
use Rattle.rows.specs.Adding.{Grown}
use Rattle.bit_places.specs.Places.{place}
use Rattle.bit_places.specs.Bit.{raised}
use Rattle.bit_places.specs.Marked.{with_bits}

-- A table that sets the bit of each added row has set the bits of just those rows.
pub grown_raised : {S : Type 0} (grew : S → Row → S → Type 0) (words : S → List ℕ) (width : S → ℕ)
    → ((s : S) (r : Row) (t : S) → grew s r t → (words t ≡ raised (words s) (place (width s) r)) × (width t ≡ width s))
    → (s : S) (rs : List Row) (t : S) → Grown grew s rs t → words t ≡ with_bits (width s) rs (words s)
grown_raised grew words width step s [] t e = ap words e
grown_raised grew words width step s (r ∷ rs) t h =
    let g = step s r h.0 h.1.0 in
    grown_raised grew words width step h.0 rs t h.1.1 ∙ (λ i. with_bits (g.1 i) rs (g.0 i))

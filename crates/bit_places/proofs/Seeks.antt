-- A search for the next bit that is set, word by word.
use Rattle.std.proofs.Common.{◌≡◌, ℕ, zero, suc, ◌+◌, ◌-◌, ◌/◌, ◌%◌, ◌^◌, ◌<◌, ◌≤◌, false, List, [], Some, None, sym, ap, ◌∙◌, ⊎_elim, add-zero, add-suc, arith}
use Rattle.std.specs.Int.{bit_at, trailing_zeros, w64}
use Rattle.std.proofs.lemmas.Nat.{shr_le, shr-shr}
use Rattle.std.proofs.lemmas.Nat.Bits.{bit_at-zero, bit_at_above, bit_at-trailing_zeros}
use Rattle.std.proofs.lemmas.Bool.{cases_lt}
use Rattle.rows.specs.declared.row.Row.{Row}
use Rattle.rows.specs.Rows.{first_from}
use Rattle.bit_places.specs.Places.{base, place, row_of}
use Rattle.bit_places.specs.Bit.{bit}
use Rattle.bit_places.specs.Marked.{marked}
use Rattle.bit_places.specs.Sought.{Sought, Low}
use Rattle.bit_places.proofs.Marks.{marked_clear}
use Rattle.bit_places.proofs.Tabled.{first_start, first_found, marked_end}

-- the lowest set digit from k on, in a number of 64 digits
module _ (w k : ℕ) (l : k < 64) where
  abbrev shifted : ℕ
  shifted = w / 2 ^ k

  digit_in : (j : ℕ) → k ≤ j → w / 2 ^ j ≡ shifted / 2 ^ (j - k)
  digit_in j h = let e : j ≡ k + (j - k) = omega arith in ap (λ v. w / 2 ^ v) e ∙ sym (shr-shr w k (j - k))

  pub low_none : shifted ≡ 0 → Low w k 64
  low_none z =
      record {
        start = omega arith;
        most = omega arith;
        clear = λ j a b. ap (λ v. v % 2) (digit_in j a ∙ ap (λ v. v / 2 ^ (j - k)) z) ∙ bit_at-zero (j - k);
        found = λ h. absurd (omega arith);
      }

  module _ (f : w < 2 ^ 64) (p : 0 < shifted) where
    abbrev low : ℕ
    low = trailing_zeros w64 shifted

    lowest : (low < 64) × (bit_at shifted low ≡ 1) × ((i : ℕ) → i < low → bit_at shifted i ≡ 0)
    lowest = bit_at-trailing_zeros w64 shifted p (omega (arith, shr_le w k))

    set_at : bit_at w (k + low) ≡ 1
    set_at = ap (λ v. v % 2) (digit_in (k + low) (omega arith)) ∙ (let e : k + low - k ≡ low = omega arith in ap (bit_at shifted) e) ∙ lowest.1

    pub low_in : k + low < 64
    low_in = ⊎_elim (λ l. l) (λ g. absurd (omega (arith, set_at, bit_at_above w 64 (k + low) f g))) (cases_lt (k + low) 64)

    pub low_some : Low w k (k + low)
    low_some =
        let h = low_in in
        record {
          start = omega arith;
          most = omega arith;
          clear = λ j a b. ap (λ v. v % 2) (digit_in j a) ∙ lowest.2 (j - k) (omega arith);
          found = λ _. set_at;
        }

-- clear bits bring no row
pub marked_clears : (w : ℕ) (ws : List ℕ) (d i n : ℕ) → ((j : ℕ) → i ≤ j → j < i + d → bit ws j ≡ false) → marked w ws i (n + d) ≡ marked w ws (i + d) n
marked_clears w ws zero i n h = ap (λ k. marked w ws i k) (add-zero n) ∙ ap (λ k. marked w ws k n) (sym (add-zero i))
marked_clears w ws (suc d) i n h =
    ap (λ k. marked w ws i k) (add-suc n d) ∙ marked_clear w ws i (n + d) (h i (omega arith) (omega arith))
    ∙ marked_clears w ws d (suc i) n (λ j l m. h j (omega arith) (omega arith)) ∙ ap (λ k. marked w ws k n) (let e : suc i + d ≡ i + suc d = omega arith in e)

module _ (w : ℕ) (ws : List ℕ) (i n j : ℕ) (s : Sought ws i n j) where
  pub marked_sought : j < n → marked w ws i (n - i) ≡ marked w ws j (n - j)
  marked_sought l =
      let a = s.start in
      let e : n - i ≡ (n - j) + (j - i) = omega arith in
      let g : i + (j - i) ≡ j = omega arith in
      ap (λ k. marked w ws i k) e ∙ marked_clears w ws (j - i) i (n - j) (λ k p q. s.clear k p (omega arith)) ∙ ap (λ k. marked w ws k (n - j)) g

  pub marked_nothing : n ≤ j → marked w ws i (n - i) ≡ []
  marked_nothing l =
      ⊎_elim
      (λ b. let e : n - i ≡ (n - n) + (n - i) = omega arith in
      let g : i + (n - i) ≡ n = omega arith in
      ap (λ k. marked w ws i k) e ∙ marked_clears w ws (n - i) i (n - n) (λ k p q. s.clear k p (omega arith)) ∙ ap (λ k. marked w ws k (n - n)) g ∙ marked_end w ws n n (omega arith))
      (λ b. marked_end w ws i n b) (cases_lt i n)

module _ (w : ℕ) (ws : List ℕ) (r : Row) (n j : ℕ) (h : n ≤ base w 40) (s : Sought ws (place w r) n j) where
  pub first_sought : j < n → first_from (marked w ws 0 n) r ≡ Some (row_of w j)
  first_sought l =
      first_start w ws r n h ∙ ap (λ xs. first_from xs r) (marked_sought w ws (place w r) n j s l) ∙ first_found w ws j n l r h s.start (s.found l)

  pub first_nothing : n ≤ j → first_from (marked w ws 0 n) r ≡ None
  unfolding first_from
  first_nothing l = first_start w ws r n h ∙ ap (λ xs. first_from xs r) (marked_nothing w ws (place w r) n j s l)

-- The rows whose bits are set: their order, membership, one bit raised, the least from a row on.
use Rattle.std.proofs.Common.{◌≡◌, ℕ, zero, suc, ◌+◌, ◌*◌, ◌<◌, ◌≤◌, true, false, List, [], ◌∷◌, length, Some, sym, refl, ap, ◌∙◌, subst, ⊎_elim, add-zero, add-suc, arith}
use Rattle.std.specs.List.{AllByRecursion}
use Rattle.std.proofs.lemmas.Bool.{cases_Bool, both_ways, cases_lt, or_left}
use Rattle.rows.specs.declared.row.Row.{Row}
use Rattle.rows.specs.Rows.{before, same, admissible, has, insert, first_from, Asc}
use Rattle.rows.proofs.Order.{before_asym, before_not_same, same_refl}
use Rattle.rows.proofs.Sets.{has_below, insert_low, insert_high, all_has}
use Rattle.rows.proofs.Scan.{first_skip, first_stop}
use Rattle.bit_places.specs.Places.{base, place, row_of}
use Rattle.bit_places.specs.Bit.{bit, raised}
use Rattle.bit_places.specs.Marked.{marked}
use Rattle.bit_places.proofs.Placed.{Fit, unfit, fit_row, row_place, row_before, row_after, rows_rise}
use Rattle.bit_places.proofs.RaisedBits.{bit_raised_same, bit_raised_other}

pub marked_set : (w : ℕ) (ws : List ℕ) (i n : ℕ) → bit ws i ≡ true → marked w ws i (suc n) ≡ row_of w i ∷ marked w ws (suc i) n
unfolding marked
marked_set w ws i n p = rw p

pub marked_clear : (w : ℕ) (ws : List ℕ) (i n : ℕ) → bit ws i ≡ false → marked w ws i (suc n) ≡ marked w ws (suc i) n
unfolding marked
marked_clear w ws i n p = rw p

pub all_marked : (P : Row → Type 0) (w : ℕ) (ws : List ℕ) (i n : ℕ) → ((j : ℕ) → i ≤ j → j < i + n → P (row_of w j)) → AllByRecursion P (marked w ws i n)
unfolding marked
all_marked P w ws i zero h = tt
all_marked P w ws i (suc n) h =
    let t = all_marked P w ws (suc i) n (λ j l m. h j (omega arith) (omega arith)) in
    ⊎_elim (λ p. rw (marked_set w ws i n p) (h i (omega arith) (omega arith), t)) (λ p. rw (marked_clear w ws i n p) t) (cases_Bool (bit ws i))

pub asc_marked : (w : ℕ) (ws : List ℕ) (i n : ℕ) → i + n ≤ base w 40 → Asc (marked w ws i n)
unfolding marked
asc_marked w ws i zero h = tt
asc_marked w ws i (suc n) h =
    let t = asc_marked w ws (suc i) n (omega arith) in
    ⊎_elim
    (λ p. rw (marked_set w ws i n p) (all_marked (λ y. before (row_of w i) y ≡ true) w ws (suc i) n (λ j l m. rows_rise w i j (omega arith) (omega arith)), t))
    (λ p. rw (marked_clear w ws i n p) t) (cases_Bool (bit ws i))

pub sound_marked : (w : ℕ) (ws : List ℕ) (i n : ℕ) → i + n ≤ base w 40 → AllByRecursion (λ x. admissible w x ≡ true) (marked w ws i n)
sound_marked w ws i n h = all_marked (λ x. admissible w x ≡ true) w ws i n (λ j l m. unfit w (row_of w j) (fit_row w j (omega arith)))

pub few_marked : (w : ℕ) (ws : List ℕ) (i n : ℕ) → length (marked w ws i n) ≤ n
unfolding marked
few_marked w ws i zero = omega arith
few_marked w ws i (suc n) =
    let t = few_marked w ws (suc i) n in
    ⊎_elim (λ p. rw (marked_set w ws i n p) (omega arith)) (λ p. rw (marked_clear w ws i n p) (omega arith)) (cases_Bool (bit ws i))

pub marked_same : (w : ℕ) (vs ws : List ℕ) (i n : ℕ) → ((j : ℕ) → i ≤ j → j < i + n → bit vs j ≡ bit ws j) → marked w vs i n ≡ marked w ws i n
unfolding marked
marked_same w vs ws i zero h = refl
marked_same w vs ws i (suc n) h =
    let t = marked_same w vs ws (suc i) n (λ j l m. h j (omega arith) (omega arith)) in
    let e = h i (omega arith) (omega arith) in
    ⊎_elim
    (λ p. marked_set w vs i n (e ∙ p) ∙ ap (λ xs. row_of w i ∷ xs) t ∙ sym (marked_set w ws i n p))
    (λ p. marked_clear w vs i n (e ∙ p) ∙ t ∙ sym (marked_clear w ws i n p)) (cases_Bool (bit ws i))

pub marked_none : (w : ℕ) (ws : List ℕ) (i n : ℕ) → ((j : ℕ) → i ≤ j → j < i + n → bit ws j ≡ false) → marked w ws i n ≡ []
unfolding marked
marked_none w ws i zero h = refl
marked_none w ws i (suc n) h =
    marked_clear w ws i n (h i (omega arith) (omega arith)) ∙ marked_none w ws (suc i) n (λ j l m. h j (omega arith) (omega arith))

insert_below : (r : Row) (xs : List Row) → AllByRecursion (λ y. before r y ≡ true) xs → insert r xs ≡ r ∷ xs
unfolding insert
insert_below r [] a = refl
insert_below r (x ∷ xs) a = insert_low r x xs a.0

module _ (w : ℕ) (ws : List ℕ) (r : Row) (f : Fit w r) where
  -- the rows after r's place are above r
  above : (i n : ℕ) → place w r < i → i + n ≤ base w 40 → AllByRecursion (λ y. before r y ≡ true) (marked w ws i n)
  above i n l h =
      all_marked (λ y. before r y ≡ true) w ws i n
      (λ j p q. subst (λ (x : Row). before x (row_of w j) ≡ true) (row_place w r f) (rows_rise w (place w r) j (omega arith) (omega arith)))

  pub has_marked : (i n : ℕ) → i + n ≤ base w 40 → i ≤ place w r → place w r < i + n → has (marked w ws i n) r ≡ bit ws (place w r)
  unfolding has
  has_marked i zero h l m = absurd (omega arith)
  has_marked i (suc n) h l m =
      ⊎_elim
      (λ g. let k = has_marked (suc i) n (omega arith) g (omega arith) in
      ⊎_elim (λ p. ap (λ xs. has xs r) (marked_set w ws i n p) ∙ rw (before_not_same (row_of w i) r (row_before w i (omega arith) r g)) k)
      (λ p. ap (λ xs. has xs r) (marked_clear w ws i n p) ∙ k) (cases_Bool (bit ws i)))
      (λ g. let e : i ≡ place w r = omega arith in
      ⊎_elim
      (λ p. ap (λ xs. has xs r) (marked_set w ws i n p)
      ∙ or_left (same (row_of w i) r) (has (marked w ws (suc i) n) r)
      (subst (λ (x : Row). same x r ≡ true) (sym (ap (row_of w) e ∙ row_place w r f)) (same_refl r))
      ∙ sym (ap (bit ws) (sym e) ∙ p))
      (λ p. ap (λ xs. has xs r) (marked_clear w ws i n p) ∙ has_below r (marked w ws (suc i) n) (above (suc i) n (omega arith) (omega arith)) ∙ sym (ap (bit ws) (sym e) ∙ p))
      (cases_Bool (bit ws i)))
      (cases_lt i (place w r))

  -- a clear bit raised inserts its row
  pub insert_marked : place w r < 64 * length ws → bit ws (place w r) ≡ false → (i n : ℕ) → i + n ≤ base w 40 → i ≤ place w r → place w r < i + n
      → marked w (raised ws (place w r)) i n ≡ insert r (marked w ws i n)
  insert_marked b z i zero h l m = absurd (omega arith)
  insert_marked b z i (suc n) h l m =
      ⊎_elim
      (λ g. let k = insert_marked b z (suc i) n (omega arith) g (omega arith) in
      let e = bit_raised_other ws (place w r) i b (λ q. omega arith) in
      let o = row_before w i (omega arith) r g in
      ⊎_elim
      (λ p. marked_set w (raised ws (place w r)) i n (e ∙ p) ∙ ap (λ xs. row_of w i ∷ xs) k
      ∙ sym (ap (insert r) (marked_set w ws i n p) ∙ insert_high r (row_of w i) (marked w ws (suc i) n) (before_asym (row_of w i) r o) o))
      (λ p. marked_clear w (raised ws (place w r)) i n (e ∙ p) ∙ k ∙ sym (ap (insert r) (marked_clear w ws i n p)))
      (cases_Bool (bit ws i)))
      (λ g. let e : i ≡ place w r = omega arith in
      marked_set w (raised ws (place w r)) i n (ap (bit (raised ws (place w r))) e ∙ bit_raised_same ws (place w r) b)
      ∙ (λ q. (ap (row_of w) e ∙ row_place w r f) q
      ∷ marked_same w (raised ws (place w r)) ws (suc i) n (λ j a c. bit_raised_other ws (place w r) j b (λ q. omega arith)) q)
      ∙ sym (ap (insert r) (marked_clear w ws i n (ap (bit ws) e ∙ z)) ∙ insert_below r (marked w ws (suc i) n) (above (suc i) n (omega arith) (omega arith))))
      (cases_lt i (place w r))

-- a row that no table of the width may hold is not there
pub has_unfit : (w : ℕ) (ws : List ℕ) (r : Row) (i n : ℕ) → i + n ≤ base w 40 → admissible w r ≡ false → has (marked w ws i n) r ≡ false
has_unfit w ws r i n h u =
    ⊎_elim (λ t. absurd (both_ways (admissible w r) u (all_has (λ x. admissible w x ≡ true) (marked w ws i n) r (sound_marked w ws i n h) t))) (λ p. p)
    (cases_Bool (has (marked w ws i n) r))

-- the least row from r on: places below r's are passed over, then those whose bits are clear
module _ (w : ℕ) (ws : List ℕ) (r : Row) where
  pub first_clear : (i n : ℕ) → bit ws i ≡ false → first_from (marked w ws i (suc n)) r ≡ first_from (marked w ws (suc i) n) r
  first_clear i n p = ap (λ xs. first_from xs r) (marked_clear w ws i n p)

  pub first_set : (i n : ℕ) → i < base w 40 → place w r ≤ i → bit ws i ≡ true → first_from (marked w ws i (suc n)) r ≡ Some (row_of w i)
  first_set i n h l p = ap (λ xs. first_from xs r) (marked_set w ws i n p) ∙ first_stop r (row_of w i) (marked w ws (suc i) n) (row_after w i h r l)

  pub first_pass : (i n : ℕ) → i < base w 40 → i < place w r → first_from (marked w ws i (suc n)) r ≡ first_from (marked w ws (suc i) n) r
  first_pass i n h l =
      ⊎_elim (λ p. ap (λ xs. first_from xs r) (marked_set w ws i n p) ∙ first_skip r (row_of w i) (marked w ws (suc i) n) (row_before w i h r l))
      (first_clear i n) (cases_Bool (bit ws i))

  pub first_jump : (d i n : ℕ) → i + d ≤ place w r → i + d ≤ base w 40 → first_from (marked w ws i (n + d)) r ≡ first_from (marked w ws (i + d) n) r
  first_jump zero i n l h = ap (λ k. first_from (marked w ws i k) r) (add-zero n) ∙ ap (λ k. first_from (marked w ws k n) r) (sym (add-zero i))
  first_jump (suc d) i n l h =
      ap (λ k. first_from (marked w ws i k) r) (add-suc n d) ∙ first_pass i (n + d) (omega arith) (omega arith)
      ∙ first_jump d (suc i) n (omega arith) (omega arith) ∙ ap (λ k. first_from (marked w ws k n) r) (let e : suc i + d ≡ i + suc d = omega arith in e)

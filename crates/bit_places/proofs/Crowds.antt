-- How many rows there can be: a table that has room for all is never full.
use Rattle.std.proofs.Common.{◌≡◌, ℕ, suc, ◌+◌, ◌-◌, ◌<◌, ◌≤◌, true, false, List, [], ◌∷◌, length, refl, ap, ◌∙◌, subst, ⊎_elim, arith}
use Rattle.std.specs.List.{AllByRecursion}
use Rattle.std.proofs.ByRecursion.{All-weaker}
use Rattle.std.proofs.lemmas.Bool.{cases_eq, or_from, or_parts}
use Rattle.rows.specs.declared.row.Row.{Row}
use Rattle.rows.specs.Rows.{before, same, admissible, has, insert, of_relation, Asc}
use Rattle.rows.proofs.Sets.{asc_insert, all_insert, length_insert}
use Rattle.rows.proofs.Scan.{of_in, of_out}
use Rattle.bit_places.specs.Places.{size, base, place}
use Rattle.bit_places.proofs.Placed.{Fit, fit, place_low, place_is, number_below, place_below}

-- a fit row with its place in a range
abbrev pub Between : ℕ → ℕ → ℕ → Row → Type 0
Between w lo hi x = Fit w x × (lo ≤ place w x) × (place w x < hi)

higher : (w lo hi : ℕ) (x : Row) → Fit w x → (xs : List Row) → AllByRecursion (λ y. before x y ≡ true) xs → AllByRecursion (Between w lo hi) xs → AllByRecursion (Between w (suc (place w x)) hi) xs
higher w lo hi x f [] a b = tt
higher w lo hi x f (y ∷ ys) a b = ((b.0.0, place_low w x f y a.0, b.0.2), higher w lo hi x f ys a.1 b.1)

pub crowd : (w lo hi : ℕ) (xs : List Row) → Asc xs → AllByRecursion (Between w lo hi) xs → length xs ≤ hi - lo
crowd w lo hi [] a b = omega arith
crowd w lo hi (x ∷ xs) a b =
    let l = crowd w (suc (place w x)) hi xs a.1 (higher w lo hi x b.0.0 xs a.0 b.1) in
    let p : lo ≤ place w x = b.0.1 in
    let q : place w x < hi = b.0.2 in
    omega arith

-- one row more than those held
pub crowd_more : (w lo hi : ℕ) (xs : List Row) (r : Row) → Asc xs → AllByRecursion (Between w lo hi) xs → Between w lo hi r → has xs r ≡ false → length xs < hi - lo
crowd_more w lo hi xs r a b c n =
    let l = crowd w lo hi (insert r xs) (asc_insert r xs a) (all_insert (Between w lo hi) r c xs b) in
    let m = length_insert r xs n in
    omega arith

pub all_of : (P : Row → Type 0) (k : ℕ) (xs : List Row) → AllByRecursion P xs → AllByRecursion (λ y. P y × (y.relation ≡ k)) (of_relation k xs)
unfolding of_relation
all_of P k [] a = tt
all_of P k (x ∷ xs) a =
    ⊎_elim (λ e. rw (of_in k x xs e) ((a.0, e), all_of P k xs a.1)) (λ e. rw (of_out k x xs e) (all_of P k xs a.1)) (cases_eq x.relation k)

pub asc_of : (k : ℕ) (xs : List Row) → Asc xs → Asc (of_relation k xs)
unfolding of_relation
asc_of k [] a = tt
asc_of k (x ∷ xs) a =
    ⊎_elim (λ e. rw (of_in k x xs e) (All-weaker _ _ (λ y p. p.0) (of_relation k xs) (all_of (λ y. before x y ≡ true) k xs a.0), asc_of k xs a.1))
    (λ e. rw (of_out k x xs e) (asc_of k xs a.1)) (cases_eq x.relation k)

pub has_of : (k : ℕ) (xs : List Row) (r : Row) → has xs r ≡ false → has (of_relation k xs) r ≡ false
unfolding of_relation has
has_of k [] r h = refl
has_of k (x ∷ xs) r h =
    let p = or_parts (same x r) (has xs r) h in
    ⊎_elim (λ e. ap (λ ys. has ys r) (of_in k x xs e) ∙ or_from (same x r) (has (of_relation k xs) r) p.0 (has_of k xs r p.1))
    (λ e. ap (λ ys. has ys r) (of_out k x xs e) ∙ has_of k xs r p.1) (cases_eq x.relation k)

module _ (w : ℕ) (xs : List Row) (r : Row) (asc : Asc xs) (ok : AllByRecursion (λ x. admissible w x ≡ true) xs) (f : admissible w r ≡ true) (n : has xs r ≡ false) where
  pub room_all : length xs < base w 40
  room_all =
      let m = crowd_more w 0 (base w 40) xs r asc (All-weaker _ _ (λ y p. (fit w y p, omega arith, place_below w y (fit w y p))) xs ok) (fit w r f, omega arith, place_below w r (fit w r f)) n in
      omega arith

  in_relation : (k : ℕ) (y : Row) → admissible w y ≡ true → y.relation ≡ k → Between w (base w k) (base w k + size w k) y
  in_relation k y p e =
      subst (λ j. Between w (base w j) (base w j + size w j) y) e
      (fit w y p, omega (arith, place_is w y (fit w y p)), omega (arith, place_is w y (fit w y p), number_below w y (fit w y p)))

  pub room_relation : length (of_relation r.relation xs) < size w r.relation
  room_relation =
      let k = r.relation in
      let ys = of_relation k xs in
      let m = crowd_more w (base w k) (base w k + size w k) ys r (asc_of k xs asc)
      (All-weaker _ _ (λ y p. in_relation k y p.0 p.1) ys (all_of (λ x. admissible w x ≡ true) k xs ok)) (in_relation k r f refl) (has_of k xs r n) in
      omega arith

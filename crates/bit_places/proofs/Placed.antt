-- The place of a row keeps the order of rows; the row at a place.
use Rattle.std.proofs.Common.{◌≡◌, ℕ, zero, suc, ◌+◌, ◌-◌, ◌*◌, ◌%◌, ◌<◌, ◌≤◌, true, false, leb, ◌⊎◌, sym, refl, ap, ◌∙◌, subst, inl, inr, ⊎_elim, arith}
use Rattle.std.proofs.lemmas.Bool.Decides.{nat_tests}
use Rattle.std.proofs.lemmas.Bool.{lt-ltb, le-ltb, cases_Bool, cases_lt, leb-true, leb-false}
use Rattle.std.proofs.lemmas.Nat.{div_below, mod_below, div-add-mod'}
use Rattle.rows.specs.declared.row.Row.{Row}
use Rattle.rows.specs.Rows.{before, admissible}
use Rattle.rows.proofs.Order.{lower, not_lower, same_is, same_from_neither}
use Rattle.bit_places.specs.Places.{second, third, size, base, digit, inner, place, relation_at, row_in, row_of}
use Rattle.bit_places.proofs.Digits.{digit_is, digit_below, first_less, first_more, second_less, second_more}

-- what admissible says
pub record Fit (w : ℕ) (r : Row) : Type 0 where
  pub relation : r.relation < 40
  pub a : r.a < w
  pub b : r.b < second w r.relation
  pub c : r.c < third w r.relation

pub fit : (w : ℕ) (r : Row) → admissible w r ≡ true → Fit w r
unfolding admissible second third
fit w r h = record { relation = grind (arith, nat_tests); a = grind (arith, nat_tests); b = grind (arith, nat_tests); c = grind (arith, nat_tests) }

pub unfit : (w : ℕ) (r : Row) → Fit w r → admissible w r ≡ true
unfolding admissible second third
unfit w r f = grind (arith, nat_tests)

-- bases rise
pub base_up : (w k n : ℕ) → k < n → base w k + size w k ≤ base w n
unfolding base
base_up w k zero h = absurd (omega arith)
base_up w k (suc n) h = ⊎_elim (λ l. let i = base_up w k n l in omega arith) (λ g. let e : k ≡ n = omega arith in rw e (omega arith)) (cases_lt k n)

pub place_open : (w : ℕ) (r : Row) (k : ℕ) → r.relation ≡ k → k < 40 → place w r ≡ base w k + inner w k r.a r.b r.c
unfolding place
place_open w r k e l = rw (lt-ltb r.relation 40 (omega arith)) (ap (λ j. base w j + inner w j r.a r.b r.c) e)

pub place_past : (w : ℕ) (r : Row) → 40 ≤ r.relation → place w r ≡ base w 40
unfolding place
place_past w r l = rw (le-ltb r.relation 40 l)

-- the number of a fit row within its relation
abbrev pub number : ℕ → Row → ℕ
number w r = r.a * (second w r.relation * third w r.relation) + (r.b * third w r.relation + r.c)

module _ (w : ℕ) (x : Row) (f : Fit w x) where
  abbrev s : ℕ
  s = second w x.relation

  abbrev t : ℕ
  t = third w x.relation

  pub place_is : place w x ≡ base w x.relation + number w x
  place_is =
      place_open w x x.relation refl f.relation
      ∙ ap (λ v. base w x.relation + v)
      (ap (digit w (s * t) x.a) (digit_is s t x.b x.c f.b f.c)
      ∙ digit_is w (s * t) x.a (x.b * t + x.c) f.a (digit_below s t x.b x.c f.b f.c))

  pub number_below : number w x < size w x.relation
  number_below = digit_below w (s * t) x.a (x.b * t + x.c) f.a (digit_below s t x.b x.c f.b f.c)

  low_in : (a b c : ℕ) → (x.a < a) ⊎ (((x.a ≡ a) × (x.b < b)) ⊎ ((x.a ≡ a) × (x.b ≡ b) × (x.c < c))) → number w x < inner w x.relation a b c
  low_in a b c h =
      let l = digit_below s t x.b x.c f.b f.c in
      ⊎_elim (first_less w (s * t) x.a (x.b * t + x.c) f.a l a (digit s t b c))
      (⊎_elim
      (λ p. subst (λ v. number w x < digit w (s * t) v (digit s t b c)) p.0
      (second_less w (s * t) x.a (x.b * t + x.c) f.a l (digit s t b c) (first_less s t x.b x.c f.b f.c b c p.1)))
      (λ p. subst (λ v. number w x < digit w (s * t) v (digit s t b c)) p.0
      (second_less w (s * t) x.a (x.b * t + x.c) f.a l (digit s t b c)
      (subst (λ v. x.b * t + x.c < digit s t v c) p.1 (second_less s t x.b x.c f.b f.c c p.2)))))
      h

  high_in : (a b c : ℕ) → (a < x.a) ⊎ (((a ≡ x.a) × (b < x.b)) ⊎ ((a ≡ x.a) × (b ≡ x.b) × (c ≤ x.c))) → inner w x.relation a b c ≤ number w x
  high_in a b c h =
      let l = digit_below s t x.b x.c f.b f.c in
      ⊎_elim (first_more w (s * t) x.a (x.b * t + x.c) f.a l a (digit s t b c))
      (⊎_elim
      (λ p. subst (λ v. digit w (s * t) v (digit s t b c) ≤ number w x) (sym p.0)
      (second_more w (s * t) x.a (x.b * t + x.c) f.a l (digit s t b c) (first_more s t x.b x.c f.b f.c b c p.1)))
      (λ p. subst (λ v. digit w (s * t) v (digit s t b c) ≤ number w x) (sym p.0)
      (second_more w (s * t) x.a (x.b * t + x.c) f.a l (digit s t b c)
      (subst (λ v. digit s t v c ≤ x.b * t + x.c) (sym p.1) (second_more s t x.b x.c f.b f.c c p.2)))))
      h

  pub place_below : place w x < base w 40
  place_below = omega (arith, place_is, number_below, base_up w x.relation 40 f.relation)

  -- a row before r has a lower place
  pub place_low : (r : Row) → before x r ≡ true → place w x < place w r
  place_low r h =
      ⊎_elim
      (λ p. ⊎_elim
      (λ l. omega (arith, place_is, number_below, base_up w x.relation r.relation p, place_open w r r.relation refl l))
      (λ g. omega (arith, place_below, place_past w r g)) (cases_lt r.relation 40))
      (⊎_elim (λ p. same_relation p.0 (inl p.1))
      (⊎_elim (λ p. same_relation p.0 (inr (inl (p.1, p.2)))) (λ p. same_relation p.0 (inr (inr (p.1, p.2, p.3))))))
      (lower x r h)
    where
      same_relation : x.relation ≡ r.relation → (x.a < r.a) ⊎ (((x.a ≡ r.a) × (x.b < r.b)) ⊎ ((x.a ≡ r.a) × (x.b ≡ r.b) × (x.c < r.c))) → place w x < place w r
      same_relation e q = omega (arith, place_is, low_in r.a r.b r.c q, place_open w r x.relation (sym e) f.relation)

  -- and one that is not, a place no lower
  pub place_high : (r : Row) → before x r ≡ false → place w r ≤ place w x
  place_high r h =
      ⊎_elim
      (⊎_elim
      (λ p. let k : r.relation < 40 = omega (arith, f.relation) in
      let l = base_up w r.relation x.relation p in
      let m = inner_most r.relation r.a r.b r.c in
      omega (arith, place_is, place_open w r r.relation refl k))
      (⊎_elim (λ p. same_relation p.0 (inl p.1))
      (⊎_elim (λ p. same_relation p.0 (inr (inl (p.1, p.2)))) (λ p. same_relation p.0 (inr (inr (p.1, p.2, (let q = p.3 in omega arith))))))))
      (λ p. same_relation (sym p.0) (inr (inr (sym p.1, sym p.2, (let q = p.3 in omega arith)))))
      (not_lower x r h)
    where
      inner_most : (k a b c : ℕ) → inner w k a b c ≤ size w k
      inner_most k a b c = omega arith

      same_relation : r.relation ≡ x.relation → (r.a < x.a) ⊎ (((r.a ≡ x.a) × (r.b < x.b)) ⊎ ((r.a ≡ x.a) × (r.b ≡ x.b) × (r.c ≤ x.c))) → place w r ≤ place w x
      same_relation e q = omega (arith, place_is, high_in r.a r.b r.c q, place_open w r x.relation e f.relation)

-- two rows with one place are one
pub same_place : (w : ℕ) (x y : Row) → Fit w x → Fit w y → place w x ≡ place w y → x ≡ y
same_place w x y f g e =
    ⊎_elim (λ p. absurd (omega (arith, place_low w x f y p)))
    (λ p. ⊎_elim (λ q. absurd (omega (arith, place_low w y g x q))) (λ q. same_is x y (same_from_neither x y p q)) (cases_Bool (before y x)))
    (cases_Bool (before x y))

-- the row at a place
pub relation_low : (w n i : ℕ) → base w (relation_at w n i) ≤ i
unfolding base relation_at
relation_low w zero i = omega arith
relation_low w (suc n) i = ⊎_elim (λ p. rw p (leb-true _ _ p)) (λ p. rw p (relation_low w n i)) (cases_Bool (leb (base w (suc n)) i))

pub relation_high : (w n i : ℕ) → i < base w (suc n) → i < base w (relation_at w n i) + size w (relation_at w n i)
unfolding base relation_at
relation_high w zero i h = h
relation_high w (suc n) i h = ⊎_elim (λ p. rw p h) (λ p. rw p (relation_high w n i (leb-false _ _ p))) (cases_Bool (leb (base w (suc n)) i))

pub relation_most : (w n i : ℕ) → relation_at w n i ≤ n
unfolding relation_at
relation_most w zero i = omega arith
relation_most w (suc n) i = let l = relation_most w n i in ⊎_elim (λ p. rw p (omega arith)) (λ p. rw p (omega arith)) (cases_Bool (leb (base w (suc n)) i))

below_pos : (j m n : ℕ) → j < m * n → 0 < n
below_pos j m zero h = absurd (omega arith)
below_pos j m (suc n) h = omega arith

module _ (w k j : ℕ) (l : k < 40) (h : j < size w k) where
  abbrev s' : ℕ
  s' = second w k

  abbrev t' : ℕ
  t' = third w k

  pub st : 0 < s' * t'
  st = below_pos j w (s' * t') h

  abbrev m : ℕ
  m = j % (s' * t')

  m_below : m < s' * t'
  m_below = mod_below j (s' * t') st

  pub t_pos : 0 < t'
  t_pos = below_pos m s' t' m_below

  pub fit_in : Fit w (row_in w k j)
  fit_in = record { relation = l; a = div_below j (s' * t') w st h; b = div_below m t' s' t_pos m_below; c = mod_below m t' t_pos }

  pub place_in : place w (row_in w k j) ≡ base w k + j
  place_in = omega (arith, place_is w (row_in w k j) fit_in, div-add-mod' j (s' * t'), div-add-mod' m t')

module _ (w i : ℕ) (h : i < base w 40) where
  abbrev k : ℕ
  k = relation_at w 39 i

  pub lo : base w k ≤ i
  lo = relation_low w 39 i

  pub hi : i - base w k < size w k
  hi = omega (arith, relation_low w 39 i, relation_high w 39 i h)

  pub fit_row : Fit w (row_of w i)
  unfolding row_of
  fit_row = fit_in w k (i - base w k) (omega (arith, relation_most w 39 i)) hi

  pub place_row : place w (row_of w i) ≡ i
  unfolding row_of
  place_row = omega (arith, place_in w k (i - base w k) (omega (arith, relation_most w 39 i)) hi, lo)

  pub row_before : (r : Row) → i < place w r → before (row_of w i) r ≡ true
  row_before r l = ⊎_elim (λ p. p) (λ p. absurd (omega (arith, place_high w (row_of w i) fit_row r p, place_row))) (cases_Bool (before (row_of w i) r))

  pub row_after : (r : Row) → place w r ≤ i → before (row_of w i) r ≡ false
  row_after r l = ⊎_elim (λ p. absurd (omega (arith, place_low w (row_of w i) fit_row r p, place_row))) (λ p. p) (cases_Bool (before (row_of w i) r))

pub row_place : (w : ℕ) (r : Row) → Fit w r → row_of w (place w r) ≡ r
row_place w r f = let l = place_below w r f in same_place w (row_of w (place w r)) r (fit_row w (place w r) l) f (place_row w (place w r) l)

-- later places have later rows
pub rows_rise : (w i j : ℕ) → i < j → j < base w 40 → before (row_of w i) (row_of w j) ≡ true
rows_rise w i j l h = row_before w i (omega arith) (row_of w j) (omega (arith, place_row w j h))

pub total : (w : ℕ) → base w 40 ≡ w + 34 * (w * w) + 5 * (w * w * w)
unfolding base second third
total w = omega arith

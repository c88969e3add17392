-- How large sizes and bases are at a width of at most 32.
use Rattle.std.proofs.Common.{◌≡◌, ℕ, zero, suc, ◌+◌, ◌-◌, ◌*◌, ◌/◌, ◌%◌, ◌<◌, ◌≤◌, sym, refl, ap, subst, ⊎_elim, mul-le-mul, add-one, arith}
use Rattle.std.proofs.lemmas.Bool.Decides.{nat_tests}
use Rattle.std.proofs.lemmas.Bool.{cases_order}
use Rattle.bit_places.specs.Places.{second, third, size, base, relation_at, row_in, row_of}
use Rattle.bit_places.proofs.Placed.{Fit, fit_row, hi, st, t_pos, base_up, relation_low, relation_high, relation_most}

module _ (w : ℕ) (h : w ≤ 32) (k : ℕ) where
  pub second_most : second w k ≤ 32
  unfolding second
  second_most = grind (arith, nat_tests)

  pub third_most : third w k ≤ 32
  unfolding third
  third_most = grind (arith, nat_tests)

  pub pair_most : second w k * third w k ≤ 1024
  pair_most = mul-le-mul second_most third_most

  pub size_most : size w k ≤ 32768
  size_most = mul-le-mul h pair_most

pub base_most : (w : ℕ) → w ≤ 32 → (k : ℕ) → base w k ≤ 32768 * k
unfolding base
base_most w h zero = omega arith
base_most w h (suc k) = omega (arith, base_most w h k, size_most w h k)

pub base_suc : (w k : ℕ) → base w (k + 1) ≡ base w k + size w k
unfolding base
base_suc w k = rw add-one

pub base_none : (w : ℕ) → base w 0 ≡ 0
unfolding base
base_none w = refl

-- one relation has the place
pub relation_is : (w i k : ℕ) → k < 40 → i < base w 40 → base w k ≤ i → i < base w k + size w k → k ≡ relation_at w 39 i
relation_is w i k l h a b =
    let n = relation_at w 39 i in
    let c = relation_low w 39 i in
    let d = relation_high w 39 i h in
    ⊎_elim (λ e. e)
    (⊎_elim (λ p. absurd (omega (arith, base_up w k n p))) (λ p. absurd (omega (arith, base_up w n k p))))
    (cases_order k n)

pub row_is : (w i k : ℕ) → k < 40 → i < base w 40 → base w k ≤ i → i < base w k + size w k → row_in w k (i - base w k) ≡ row_of w i
unfolding row_of
row_is w i k l h a b = ap (λ n. row_in w n (i - base w n)) (relation_is w i k l h a b)

-- what the code that makes the row at a place wants to know
pub record Made (w i k s t b : ℕ) : Type 0 where
  pub pair_pos : 0 < s * t
  pub third_pos : 0 < t
  pub a_small : (i - b) / (s * t) < 32
  pub b_small : (i - b) % (s * t) / t < 32
  pub c_small : (i - b) % (s * t) % t < 32
  pub is : record { relation = k; a = (i - b) / (s * t); b = (i - b) % (s * t) / t; c = (i - b) % (s * t) % t } ≡ row_of w i

module _ (w i : ℕ) (n : w ≤ 32) (h : i < base w 40) where
  abbrev K : ℕ
  K = relation_at w 39 i

  known_at : K < 40
  known_at = omega (arith, relation_most w 39 i)

  made_at : Made w i K (second w K) (third w K) (base w K)
  unfolding row_of
  made_at =
      let f : Fit w (row_of w i) = fit_row w i h in
      let j = i - base w K in
      let p = st w K j known_at (hi w i h) in
      let q = t_pos w K j known_at (hi w i h) in
      record {
        pair_pos = p;
        third_pos = q;
        a_small = omega (arith, f.a);
        b_small = omega (arith, f.b, second_most w n K);
        c_small = omega (arith, f.c, third_most w n K);
        is = refl;
      }

  pub made : (k s t b : ℕ) → k ≡ K → s ≡ second w k → t ≡ third w k → b ≡ base w k → Made w i k s t b
  made k s t b e p q r =
      subst (λ v. Made w i k s t v) (sym r) (subst (λ v. Made w i k s v (base w k)) (sym q) (subst (λ v. Made w i k v (third w k) (base w k)) (sym p)
      (subst (λ v. Made w i v (second w v) (third w v) (base w v)) (sym e) made_at)))

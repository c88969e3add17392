-- How many rows the relations below one have, with no sum.
use Rattle.std.proofs.Common.{◌≡◌, ℕ, zero, suc, ◌+◌, ◌-◌, ◌*◌, ◌≤◌, true, false, cond, eqb, sym, ap, ◌∙◌, ⊎_elim, arith}
use Rattle.std.proofs.lemmas.Nat.{mul-le}
use Rattle.std.proofs.lemmas.Bool.Decides.{nat_tests}
use Rattle.std.proofs.lemmas.Bool.{cases_Bool, cases_eq, eq-eqb, ne_eqb}
use Rattle.rows.specs.Rows.{three_places}
use Rattle.bit_places.specs.Places.{second, third, size, base}
use Rattle.bit_places.specs.Kinds.{past, ones, threes, twos}

abbrev here : ℕ → ℕ → ℕ
here j k = cond (eqb k j) 1 0

past_more : (j k : ℕ) → past j (suc k) ≡ past j k + here j k
past_more j k = grind (arith, nat_tests)

abbrev three : ℕ → ℕ
three k = here 0 k + here 4 k + here 32 k + here 33 k + here 36 k

ones_more : (k : ℕ) → ones (suc k) ≡ ones k + here 1 k
unfolding ones
ones_more k = past_more 1 k

threes_more : (k : ℕ) → threes (suc k) ≡ threes k + three k
unfolding threes
threes_more k = omega (arith, past_more 0 k, past_more 4 k, past_more 32 k, past_more 33 k, past_more 36 k)

-- the kind of a relation
data Kind (w k : ℕ) : Type 0 where
  one_code : here 1 k ≡ 1 → three k ≡ 0 → size w k ≡ w → Kind w k
  two_codes : here 1 k ≡ 0 → three k ≡ 0 → size w k ≡ w * w → Kind w k
  three_codes : here 1 k ≡ 0 → three k ≡ 1 → size w k ≡ w * (w * w) → Kind w k

three_yes : (k : ℕ) → three_places k ≡ true → (three k ≡ 1) × (here 1 k ≡ 0) × (eqb k 1 ≡ false)
three_yes k h = (grind (arith, nat_tests), grind (arith, nat_tests), grind (arith, nat_tests))

three_not : (k : ℕ) → three_places k ≡ false → three k ≡ 0
three_not k h = grind (arith, nat_tests)

kind : (w k : ℕ) → Kind w k
unfolding second third
kind w k =
    ⊎_elim
    (λ t. let p = three_yes k t in
    three_codes p.1 p.0
    (ap (λ b. w * (second w k * cond b w 1)) t ∙ ap (λ b. w * (cond b 1 w * w)) p.2))
    (λ t. let p = three_not k t in
    ⊎_elim
    (λ e. let o = eq-eqb k 1 e in
    one_code (ap (λ b. cond b 1 0) o) p (ap (λ b. w * (second w k * cond b w 1)) t ∙ ap (λ b. w * (cond b 1 w * 1)) o ∙ omega arith))
    (λ e. let o = ne_eqb k 1 e in
    two_codes (ap (λ b. cond b 1 0) o) p (ap (λ b. w * (second w k * cond b w 1)) t ∙ ap (λ b. w * (cond b 1 w * 1)) o ∙ omega arith))
    (cases_eq k 1))
    (cases_Bool (three_places k))

few_kinds : (k : ℕ) → ones k + threes k ≤ k
unfolding ones threes
few_kinds zero = omega arith
few_kinds (suc k) =
    let i = few_kinds k in
    let a = ones_more k in
    let b = threes_more k in
    elim (kind 0 k) [ one_code p q s ↦ (omega arith) | two_codes p q s ↦ (omega arith) | three_codes p q s ↦ (omega arith) ]

abbrev pub sums : ℕ → ℕ → ℕ → ℕ → ℕ
sums w a b c = w * (a + w * (b + w * c))

base_start : (w : ℕ) → 0 ≡ sums w (ones 0) (twos 0) (threes 0)
unfolding ones threes
base_start w = omega arith

pub base_closed : (w k : ℕ) → base w k ≡ sums w (ones k) (twos k) (threes k)
unfolding base
base_closed w zero = base_start w
base_closed w (suc k) =
    let i = base_closed w k in
    let f = few_kinds k in
    elim (kind w k) [
      | one_code p q s ↦ (let a : ones (suc k) ≡ ones k + 1 = omega (arith, ones_more k) in
          let c : threes (suc k) ≡ threes k = omega (arith, threes_more k) in
          let b : twos (suc k) ≡ twos k = omega arith in
          omega (arith, i, s) ∙ sym (λ x. sums w (a x) (b x) (c x)))
      | two_codes p q s ↦ (let a : ones (suc k) ≡ ones k = omega (arith, ones_more k) in
          let c : threes (suc k) ≡ threes k = omega (arith, threes_more k) in
          let b : twos (suc k) ≡ twos k + 1 = omega arith in
          omega (arith, i, s) ∙ sym (λ x. sums w (a x) (b x) (c x)))
      | three_codes p q s ↦ (let a : ones (suc k) ≡ ones k = omega (arith, ones_more k) in
          let c : threes (suc k) ≡ threes k + 1 = omega (arith, threes_more k) in
          let b : twos (suc k) ≡ twos k = omega arith in
          omega (arith, i, s) ∙ sym (λ x. sums w (a x) (b x) (c x)))
    ]

-- as the code computes it
pub base_is : (w k a c : ℕ) → a ≡ past 1 k → c ≡ threes k → w * (a + w * (k - a - c + w * c)) ≡ base w k
unfolding ones
base_is w k a c e f = (λ i. sums w (e i) (k - e i - f i) (f i)) ∙ sym (base_closed w k)

pub base_fits : (w a b c : ℕ) → w ≤ 32 → a ≤ 1 → b ≤ 40 → c ≤ 5 → w * (a + w * (b + w * c)) ≤ 1310720
base_fits w a b c h p q r =
    let n : w * c ≤ 160 = mul-le w c 32 5 h r in
    let m : w * (b + w * c) ≤ 6400 = mul-le w (b + w * c) 32 200 h (omega arith) in
    let l : w * (a + w * (b + w * c)) ≤ 204832 = mul-le w (a + w * (b + w * c)) 32 6401 h (omega arith) in
    omega arith

-- the relation past those that it counts is counted once
pub fewer : (k : ℕ) → past 1 k + threes k ≤ k
unfolding ones
fewer k = few_kinds k

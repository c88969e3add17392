-- One bit set in words.
use Rattle.std.proofs.Common.{◌≡◌, ℕ, ◌*◌, ◌/◌, ◌%◌, ◌^◌, ◌<◌, true, eqb, List, length, get_or, sym, ap, ◌∙◌, ⊎_elim, arith}
use lib.Bits.{bit_or}
use Rattle.std.proofs.lemmas.Nat.Bits.{bit_at_or, bit_at-pow_same, bit_at-pow_other, bit_at-lt}
use Rattle.std.proofs.lemmas.List.{get_or-set_same, get_or-set_other}
use Rattle.std.proofs.lemmas.Bool.{cases_eq}
use Rattle.bit_places.specs.Bit.{bit, raised}

raised_same : (w k : ℕ) → bit_or w (2 ^ k) / 2 ^ k % 2 ≡ 1
raised_same w k = omega (arith, bit_at_or w (2 ^ k) k, bit_at-pow_same k, bit_at-lt w k)

raised_other : (w k j : ℕ) → (j ≡ k → ⊥) → bit_or w (2 ^ k) / 2 ^ j % 2 ≡ w / 2 ^ j % 2
raised_other w k j ne = omega (arith, bit_at_or w (2 ^ k) j, bit_at-pow_other k j ne)

pub bit_raised_same : (ws : List ℕ) (i : ℕ) → i < 64 * length ws → bit (raised ws i) i ≡ true
bit_raised_same ws i h =
    ap (λ w. eqb (w / 2 ^ (i % 64) % 2) 1) (get_or-set_same ws (i / 64) (bit_or (get_or ws (i / 64) 0) (2 ^ (i % 64))) 0 (omega arith))
    ∙ ap (λ n. eqb n 1) (raised_same (get_or ws (i / 64) 0) (i % 64))

pub bit_raised_other : (ws : List ℕ) (i j : ℕ) → i < 64 * length ws → (j ≡ i → ⊥) → bit (raised ws i) j ≡ bit ws j
bit_raised_other ws i j h ne =
    let v = bit_or (get_or ws (i / 64) 0) (2 ^ (i % 64)) in
    ⊎_elim
    (λ e. ap (λ k. eqb (get_or (raised ws i) k 0 / 2 ^ (j % 64) % 2) 1) e
    ∙ ap (λ w. eqb (w / 2 ^ (j % 64) % 2) 1) (get_or-set_same ws (i / 64) v 0 (omega arith))
    ∙ ap (λ n. eqb n 1) (raised_other (get_or ws (i / 64) 0) (i % 64) (j % 64) (λ p. ne (omega arith)))
    ∙ ap (λ k. eqb (get_or ws k 0 / 2 ^ (j % 64) % 2) 1) (sym e))
    (λ n. ap (λ w. eqb (w / 2 ^ (j % 64) % 2) 1) (get_or-set_other ws (i / 64) (j / 64) v 0 n))
    (cases_eq (j / 64) (i / 64))

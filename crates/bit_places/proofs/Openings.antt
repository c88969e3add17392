-- A bit table's opening.
use Rattle.std.proofs.Common.{◌≡◌, ℕ, ◌+◌, ◌*◌, ◌/◌, ◌%◌, ◌^◌, ◌<◌, ◌≤◌, Bool, true, false, cond, eqb, ltb, leb, List, [], length, get_or, drop, replicate, Ok, sym, refl, ap, ◌∙◌, subst, arith}
use native.Mathlib.Nat.{div-eq_of_lt}
use Rattle.std.proofs.lemmas.Nat.{pow_pos}
use Rattle.std.proofs.lemmas.List.{get_or_append_left, get_or-replicate, length-replicate}
use Rattle.std.proofs.lemmas.List.FromFn.{fill_by_all}
use Rattle.std.proofs.lemmas.Bool.{and_parts, ltb-true, leb-true, le-leb, lt-leb, lt-ltb}
use Rattle.rows.proofs.Opens.{opening_ok}
use Rattle.bit_places.specs.Places.{size, base}
use Rattle.bit_places.specs.Bit.{bit}
use Rattle.bit_places.specs.Marked.{marked}
use Rattle.bit_places.specs.Opened.{bit_limits, each_limit, fits_width, fits_words, check_answer, cleared, words_for}
use Rattle.bit_places.proofs.Placed.{total}
use Rattle.bit_places.proofs.Marks.{marked_none}

-- how many rows a width admits, in its three powers
abbrev needed : ℕ → ℕ
needed w = w + 34 * (w * w) + 5 * (w * w * w)

pub record Fitting (len w : ℕ) : Type 0 where
  pub wide : 0 < w
  pub narrow : w ≤ 32
  pub room : base w 40 ≤ 64 * len

pub opened : (len w : ℕ) → Ok tt ≡ check_answer len w → Fitting len w
opened len w e =
    let p = opening_ok (fits_width w) (fits_words len w) e in
    let q = and_parts (ltb 0 w) (leb w 32) p.0 in
    record {
      wide = ltb-true 0 w q.0;
      narrow = leb-true w 32 q.1;
      room = omega (arith, total w, leb-true (needed w) (64 * len) p.1);
    }

pub open_live : (len w n : ℕ) → Fitting len w → n ≡ base w 40 → ltb 0 n ≡ true
open_live len w n f e = let t = total w in let p = f.wide in lt-ltb 0 n (omega arith)

pub open_sized : (len w n : ℕ) → Fitting len w → n ≡ base w 40 → n ≡ cond (ltb 0 n) (base w 40) 0
open_sized len w n f e = e ∙ ap (λ b. cond b (base w 40) 0) (sym (open_live len w n f e))

-- the words needed are there, or are not
pub words_enough : (len w : ℕ) → words_for w ≤ len → fits_words len w ≡ true
words_enough len w h = le-leb (needed w) (64 * len) (omega (arith, total w))

pub words_few : (len w : ℕ) → len < words_for w → fits_words len w ≡ false
words_few len w h = lt-leb (needed w) (64 * len) (omega (arith, total w))

pub cleared_bit : (n : ℕ) (ws : List ℕ) (j : ℕ) → j < 64 * n → bit (cleared n ws) j ≡ false
cleared_bit n ws j h =
    let l : j / 64 < n = omega arith in
    let m : j / 64 < length (replicate n 0) = subst (λ k. j / 64 < k) (sym (length-replicate n 0)) l in
    ap (λ v. eqb (v / 2 ^ (j % 64) % 2) 1) (get_or_append_left (replicate n 0) (drop n ws) 0 (j / 64) m ∙ get_or-replicate n (j / 64) 0 0 l)
    ∙ ap (λ v. eqb (v % 2) 1) (div-eq_of_lt (pow_pos (j % 64)))

pub cleared_rows : (w n : ℕ) (ws : List ℕ) (m : ℕ) → m ≤ 64 * n → marked w (cleared n ws) 0 m ≡ []
cleared_rows w n ws m h = marked_none w (cleared n ws) 0 m (λ j l k. cleared_bit n ws j (omega arith))

pub no_rows : (w : ℕ) (ws : List ℕ) → marked w ws 0 0 ≡ []
unfolding marked
no_rows w ws = refl

-- forty maxima
pub each_shut : (w : ℕ) → replicate 40 0 ≡ each_limit false w
unfolding each_limit
each_shut w = refl

pub each_open : (w : ℕ) (xs : List ℕ) → length xs ≡ 40 → ((k : ℕ) → k < 40 → get_or xs k 0 ≡ size w k) → xs ≡ each_limit true w
unfolding each_limit
each_open w xs l h = fill_by_all (size w) xs 40 0 l h

pub limits_are : (v w n : ℕ) (live : Bool) (each : List ℕ) → v ≡ w → n ≡ cond live (base w 40) 0 → each ≡ each_limit live w → record { width = v; total = n; each = each } ≡ bit_limits live w
unfolding bit_limits
limits_are v w n live each d e f = λ i. record { width = d i; total = e i; each = f i }

pub limits_same : (m n w v : ℕ) → m ≡ n → w ≡ v → bit_limits (ltb 0 m) w ≡ bit_limits (ltb 0 n) v
limits_same m n w v p q = λ i. bit_limits (ltb 0 (p i)) (q i)

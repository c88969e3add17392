-- Rows written one after another into words.
use Rattle.std.proofs.Common.{◌≡◌, ℕ, suc, ◌+◌, ◌-◌, ◌*◌, ◌≤◌, List, [], ◌∷◌, ◌++◌, length, drop, set, sym, refl, ap, ◌∙◌, append_assoc, arith, length-append}
use Rattle.std.proofs.lemmas.List.{length-set, set-append_right}
use Rattle.rows.specs.declared.row.Row.{Row}
use Rattle.rows.specs.Words.{put_row, spelled, written}
use Rattle.rows.specs.Adding.{Grown}

abbrev put_rows : List ℕ → ℕ → List Row → List ℕ
put_rows ws n [] = ws
put_rows ws n (r ∷ rs) = put_rows (put_row ws n r) (n + 1) rs

length_put : (ws : List ℕ) (n : ℕ) (rs : List Row) → length (put_rows ws n rs) ≡ length ws
length_put ws n [] = refl
length_put ws n (r ∷ rs) = length_put (put_row ws n r) (n + 1) rs ∙ simp length-set

set_past : (p ys : List ℕ) (n i k v : ℕ) → length p ≡ n → i ≡ n + k → set (p ++ ys) i v ≡ p ++ set ys k v
set_past p ys n i k v e h =
    let d : i - n ≡ k = omega arith in
    set-append_right p ys n i v e (omega arith) ∙ ap (λ j. p ++ set ys j v) d

put_past : (p : List ℕ) (n : ℕ) (r : Row) (a b c d : ℕ) (ws : List ℕ) → length p ≡ 4 * n
    → put_row (p ++ (a ∷ b ∷ c ∷ d ∷ ws)) n r ≡ p ++ (r.relation ∷ r.a ∷ r.b ∷ r.c ∷ ws)
put_past p n r a b c d ws e =
    ap (λ l. set (set (set l (4 * n + 1) r.a) (4 * n + 2) r.b) (4 * n + 3) r.c) (set_past p (a ∷ b ∷ c ∷ d ∷ ws) (4 * n) (4 * n) 0 r.relation e (omega arith))
    ∙ ap (λ l. set (set l (4 * n + 2) r.b) (4 * n + 3) r.c) (set_past p (r.relation ∷ b ∷ c ∷ d ∷ ws) (4 * n) (4 * n + 1) 1 r.a e refl)
    ∙ ap (λ l. set l (4 * n + 3) r.c) (set_past p (r.relation ∷ r.a ∷ c ∷ d ∷ ws) (4 * n) (4 * n + 2) 2 r.b e refl)
    ∙ set_past p (r.relation ∷ r.a ∷ r.b ∷ d ∷ ws) (4 * n) (4 * n + 3) 3 r.c e refl

written_past : (p ws : List ℕ) (n : ℕ) (rs : List Row) → length p ≡ 4 * n → 4 * length rs ≤ length ws → put_rows (p ++ ws) n rs ≡ p ++ written rs ws
written_past p ws n [] e h = refl
written_past p (a ∷ b ∷ c ∷ d ∷ ws) n (r ∷ rs) e h =
    let q = r.relation ∷ r.a ∷ r.b ∷ r.c ∷ [] in
    let l : length (p ++ q) ≡ 4 * (n + 1) = simp length-append (omega arith) in
    let k : 4 * suc (length rs) ≡ suc (suc (suc (suc (4 * length rs)))) = omega arith in
    ap (λ vs. put_rows vs (n + 1) rs) (put_past p n r a b c d ws e ∙ sym (append_assoc p q ws))
    ∙ written_past (p ++ q) ws (n + 1) rs l (omega arith)
    ∙ append_assoc p q (written rs ws)
    ∙ ap (λ j. p ++ (q ++ (spelled rs ++ drop j (a ∷ b ∷ c ∷ d ∷ ws)))) (sym k)
written_past p [] n (r ∷ rs) e h = absurd (omega arith)
written_past p (a ∷ []) n (r ∷ rs) e h = absurd (omega arith)
written_past p (a ∷ b ∷ []) n (r ∷ rs) e h = absurd (omega arith)
written_past p (a ∷ b ∷ c ∷ []) n (r ∷ rs) e h = absurd (omega arith)

-- A table that writes each added row right after the others, from no row on, has written just those rows.
module _ {S : Type 0} (grew : S → Row → S → Type 0) (words : S → List ℕ) (used : S → ℕ)
    (step : (s : S) (r : Row) (t : S) → grew s r t → (words t ≡ put_row (words s) (used s) r) × (used t ≡ used s + 1)) where
  puts : (s : S) (rs : List Row) (t : S) → Grown grew s rs t → (words t ≡ put_rows (words s) (used s) rs) × (used t ≡ used s + length rs)
  puts s [] t e = (ap words e, ap used e ∙ omega arith)
  puts s (r ∷ rs) t h =
      let m = h.0 in
      let i = puts m rs t h.1.1 in
      let g = step s r m h.1.0 in
      let n = g.1 in
      let k = i.1 in
      (i.0 ∙ (λ j. put_rows (g.0 j) (n j) rs), omega arith)

  pub grown_written : (s : S) (rs : List Row) (t : S) → Grown grew s rs t → used s ≡ 0 → 4 * used t ≤ length (words t) → words t ≡ written rs (words s)
  grown_written s rs t g z room =
      let p = puts s rs t g in
      let w : words t ≡ put_rows (words s) 0 rs = p.0 ∙ ap (λ n. put_rows (words s) n rs) z in
      let n = p.1 in
      let l = ap length w ∙ length_put (words s) 0 rs in
      w ∙ written_past [] (words s) 0 rs refl (omega arith)

-- The number of rows of a content is one number.
use Rattle.std.proofs.Common.{◌≡◌, ℕ, suc, ◌≤◌, cond, ◌≢◌, List, [], ◌∷◌, length, sym, ap, ◌∙◌, subst, ⊎_elim, arith}
use Rattle.std.proofs.lemmas.Bool.{cases_Bool, cond-true, cond-false, both_ways}
use Rattle.rows.specs.declared.row.Row.{Row}
use Rattle.rows.specs.Rows.{same}
use Rattle.rows.proofs.Order.{same_is, same_refl}
use Rattle.datalog.specs.Contents.{Content, Among}
use Rattle.datalog.proofs.Engine.{Sub, has_here, has_there, has_cons, has_none}
use Rattle.theorems.specs.Numbers.{Distinct, Number}

-- a list without one occurrence of a row
abbrev remove : Row → List Row → List Row
remove r [] = []
remove r (s ∷ l) = cond (same s r) l (s ∷ remove r l)

remove_length : (r : Row) (l : List Row) → Among l r → suc (length (remove r l)) ≡ length l
remove_length r [] h = absurd (has_none r h)
remove_length r (s ∷ l) h =
    ⊎_elim
    (λ e. ap (λ (k : List Row). suc (length k)) (cond-true (same s r) l (s ∷ remove r l) e))
    (λ e. ap (λ (k : List Row). suc (length k)) (cond-false (same s r) l (s ∷ remove r l) e)
    ∙ ap suc (remove_length r l (has_cons s l r h (λ i. absurd (both_ways (same s r) e (ap (same s) (sym i) ∙ same_refl s))) (λ m. m))))
    (cases_Bool (same s r))

remove_keeps : (r s : Row) (l : List Row) → s ≢ r → Among l s → Among (remove r l) s
remove_keeps r s [] n h = absurd (has_none s h)
remove_keeps r s (t ∷ l) n h =
    ⊎_elim
    (λ e. subst (λ k. Among k s) (sym (cond-true (same t r) l (t ∷ remove r l) e))
    (has_cons t l s h (λ i. absurd (n (sym i ∙ same_is t r e))) (λ m. m)))
    (λ e. subst (λ k. Among k s) (sym (cond-false (same t r) l (t ∷ remove r l) e))
    (has_cons t l s h (λ i. subst (Among (t ∷ remove r l)) i (has_here t (remove r l))) (λ m. has_there t (remove r l) s (remove_keeps r s l n m))))
    (cases_Bool (same t r))

pub fewer : (l m : List Row) → Distinct l → Sub (Among l) (Among m) → length l ≤ length m
fewer [] m d f = omega arith
fewer (r ∷ l) m d f =
    let k = remove_length r m (f r (has_here r l)) in
    let i = fewer l (remove r m) d.1 (λ s h. remove_keeps r s m (λ e. d.0 (subst (Among l) e h)) (f s (has_there r l s h))) in
    omega arith

pub one_number : (P : Content) (m n : ℕ) → Number P m → Number P n → m ≡ n
one_number P m n u v =
    let a = fewer u.rows v.rows u.distinct (λ r h. (v.lists r).0 ((u.lists r).1 h)) in
    let b = fewer v.rows u.rows v.distinct (λ r h. (u.lists r).0 ((v.lists r).1 h)) in
    let x = u.many in
    let y = v.many in
    omega arith

-- The first row of one relation from a row on.
use Rattle.std.proofs.Common.{◌≡◌, ℕ, ◌<◌, true, List, [], ◌∷◌, Some, None, sym, refl, ap, ◌∙◌, subst, ⊎_elim, arith}
use Rattle.std.proofs.ByRecursion.{All-weaker}
use Rattle.std.proofs.lemmas.Bool.{cases_Bool, cases_eq}
use Rattle.rows.specs.declared.row.Row.{Row}
use Rattle.rows.specs.Rows.{before, first_from, of_relation, Asc}
use Rattle.rows.proofs.Order.{before_relation}
use Rattle.rows.proofs.Scan.{first_skip, first_stop, of_in, of_out, none_above}

module _ (k : ℕ) (q : Row) where
  -- a row that is before q can be left out
  pass : (x : Row) (xs : List Row) → before x q ≡ true → first_from (of_relation k (x ∷ xs)) q ≡ first_from (of_relation k xs) q
  pass x xs p =
      ⊎_elim (λ e. ap (λ ys. first_from ys q) (of_in k x xs e) ∙ first_skip q x (of_relation k xs) p)
      (λ n. ap (λ ys. first_from ys q) (of_out k x xs n)) (cases_eq x.relation k)

  pub read_some : (s : Row) (xs : List Row) → first_from xs q ≡ Some s → s.relation ≡ k → first_from (of_relation k xs) q ≡ Some s
  unfolding first_from
  read_some s [] e at = absurd (let z : ◌≡◌ {A = ℕ} 0 1 = cc in omega arith)
  read_some s (x ∷ xs) e at =
      ⊎_elim
      (λ p. pass x xs p ∙ read_some s xs (sym (first_skip q x xs p) ∙ e) at)
      (λ p. let i : x ≡ s = cc (first_stop q x xs p) in
      ap (λ ys. first_from ys q) (of_in k x xs (ap (λ (w : Row). w.relation) i ∙ at)) ∙ first_stop q x (of_relation k xs) p ∙ ap Some i)
      (cases_Bool (before x q))

  pub read_none : (xs : List Row) → first_from xs q ≡ None → first_from (of_relation k xs) q ≡ None
  unfolding first_from of_relation
  read_none [] e = refl
  read_none (x ∷ xs) e =
      ⊎_elim
      (λ p. pass x xs p ∙ read_none xs (sym (first_skip q x xs p) ∙ e))
      (λ p. absurd (let z : ◌≡◌ {A = ℕ} 0 1 = cc (first_stop q x xs p) in omega arith))
      (cases_Bool (before x q))

  -- the row found is of a later relation
  pub read_past : (s : Row) (xs : List Row) → Asc xs → first_from xs q ≡ Some s → k < s.relation → first_from (of_relation k xs) q ≡ None
  unfolding first_from
  read_past s [] a e l = absurd (let z : ◌≡◌ {A = ℕ} 0 1 = cc in omega arith)
  read_past s (x ∷ xs) a e l =
      ⊎_elim
      (λ p. pass x xs p ∙ read_past s xs a.1 (sym (first_skip q x xs p) ∙ e) l)
      (λ p. let i : x ≡ s = cc (first_stop q x xs p) in
      let lx : k < x.relation = subst (λ (w : Row). k < w.relation) (sym i) l in
      ap (λ ys. first_from ys q) (none_above k (x ∷ xs) (lx, All-weaker _ _ (λ y b. let m = before_relation x y b in omega arith) xs a.0)))
      (cases_Bool (before x q))

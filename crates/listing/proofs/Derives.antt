-- What completing a table adds, and the rows that a listing takes from it.
use Rattle.std.proofs.Common.{◌≡◌, ℕ, ◌+◌, ◌-◌, ◌<◌, ◌≤◌, true, ◌||◌, ◌⊎◌, List, [], ◌∷◌, length, Ok, sym, refl, ap, ◌∙◌, subst, inl, inr, ⊎_elim, add-zero, arith}
use Rattle.std.proofs.lemmas.Bool.{cases_Bool}
use Rattle.rows.specs.declared.row.Row.{Row}
use Rattle.rows.specs.declared.answer.Limits.{Limits}
use Rattle.rows.specs.Rows.{has, same, insert, before, Asc, rest, start}
use Rattle.rows.specs.Tables.{Meaning, add_answer, Lawful}
use Rattle.rows.specs.Adding.{taken, joined, went_in}
use Rattle.rows.proofs.Sets.{length_insert, has_insert, has_head, has_tail, all_has}
use Rattle.rows.proofs.Order.{same_is, before_start, before_relation, not_before_relation}
use Rattle.rows.proofs.Scan.{rest_skip, rest_stop, asc_rest}
use Rattle.rows.proofs.Addings.{taken_in, taken_out}
use Rattle.datalog.specs.Contents.{Among}
use Rattle.datalog.proofs.Truths.{T_from, T_is, T_not, not_T}
use Rattle.datalog.proofs.Engine.{Sub, complete_same, complete_keeps}
use Rattle.output.specs.Program.{program}
use Rattle.output.specs.Completion.{Completed, Adds}
use Rattle.output.specs.Progressing.{Completing}
use Rattle.datalog.specs.declared.progress.Progress.{Progress}
use Rattle.datalog.specs.declared.progress.Progress.TheVariants.{Finished, Spent}
use Rattle.output.proofs.Completing.{adds_completed}
use Rattle.analysis.specs.declared.fault.RunFault.{RunFault}
use Rattle.analysis.specs.declared.fault.RunFault.TheVariants.{NotEmpty, NotFact, RowsMissing, Refused, Stopped}
use Rattle.analysis.specs.declared.state.Filling.{Filling}
use Rattle.analysis.specs.Calls.{begun, Stopping}
use Rattle.listing.specs.Loading.{Took, Loading}
use Rattle.listing.specs.Listing.{most, Lists, Refusing, Listing}

-- in a list with a row in front
module _ (x : Row) (xs : List Row) (r : Row) where
  has_cases : has (x ∷ xs) r ≡ true → (x ≡ r) ⊎ (has xs r ≡ true)
  unfolding has
  has_cases h = ⊎_elim (λ e. inl (same_is x r e)) (λ e. inr (sym (ap (λ b. b || has xs r) e) ∙ h)) (cases_Bool (same x r))

module _ {S : Type 0} (M : Meaning S) where
  adds_length : {n : ℕ} {s t : S} → Adds M.rows M.grew n s t → length (M.rows t) ≡ length (M.rows s) + n
  adds_length {s = s} Adds.none = sym (add-zero (length (M.rows s)))
  adds_length (Adds.more {t = t} r a miss full is grown) =
      omega (arith, ap length is, length_insert r (M.rows t) (not_T (has (M.rows t) r) miss.1), adds_length a)

  -- a budget that is spent leaves less room
  pub less_room : (budget : ℕ) (s t : S) (p : Progress) → 0 < budget → Lawful (M.bounds t) (M.rows t) → M.bounds t ≡ M.bounds s
      → Completing M budget s (Ok p) t → ((n : ℕ) → p ≡ Finished n → ⊥)
      → (M.bounds t).total - length (M.rows t) < (M.bounds s).total - length (M.rows s)
  less_room budget s t (Finished n) pos law kept h not = absurd (not n refl)
  less_room budget s t (Spent n) pos law kept h not =
      let k = adds_length h.1 in
      omega (arith, h.0, law.few, ap (λ m. m.total) kept, k)

  -- the largest budget is more than a table holds
  pub not_spent : (s t : S) (p : Progress) (n : ℕ) → Lawful (M.bounds t) (M.rows t) → M.bounds t ≡ M.bounds s → (M.bounds s).total < most
      → Completing M most s (Ok p) t → p ≡ Spent n → ⊥
  not_spent s t p n law kept few h is =
      let d : Completing M most s (Ok (Spent n)) t = subst (λ q. Completing M most s (Ok q) t) is h in
      let k = adds_length d.1 in
      omega (arith, d.0, law.few, ap (λ m. m.total) kept, k)

has_none : (r : Row) → has [] r ≡ true → ⊥
unfolding has
has_none r h = T_not (has [] r) refl (T_from (has [] r) h)

has_at : (x : Row) (xs : List Row) (r : Row) → x ≡ r → has (x ∷ xs) r ≡ true
has_at x xs r e = subst (λ y. has (x ∷ xs) y ≡ true) e (has_head x xs)

-- the rows from the first of a relation on

rest_held : (k : ℕ) (xs : List Row) (r : Row) → has (rest (start k) xs) r ≡ true → has xs r ≡ true
unfolding rest
rest_held k [] r h = h
rest_held k (x ∷ xs) r h =
    ⊎_elim (λ e. has_tail x xs r (rest_held k xs r (subst (λ ys. has ys r ≡ true) (rest_skip (start k) x xs e) h)))
    (λ e. subst (λ ys. has ys r ≡ true) (rest_stop (start k) x xs e) h)
    (cases_Bool (before x (start k)))

rest_high : (k : ℕ) (xs : List Row) (r : Row) → Asc xs → has (rest (start k) xs) r ≡ true → k ≤ r.relation
unfolding rest
rest_high k [] r a h = absurd (has_none r h)
rest_high k (x ∷ xs) r a h =
    ⊎_elim (λ e. rest_high k xs r a.1 (subst (λ ys. has ys r ≡ true) (rest_skip (start k) x xs e) h))
    (λ e.
    let low : k ≤ x.relation = not_before_relation x (start k) e in
    ⊎_elim (λ i. subst (λ (y : Row). k ≤ y.relation) i low)
    (λ i. let b = before_relation x r (all_has (λ y. before x y ≡ true) xs r a.0 i) in omega arith)
    (has_cases x xs r (subst (λ ys. has ys r ≡ true) (rest_stop (start k) x xs e) h)))
    (cases_Bool (before x (start k)))

rest_has : (k : ℕ) (xs : List Row) (r : Row) → has xs r ≡ true → k ≤ r.relation → has (rest (start k) xs) r ≡ true
unfolding rest
rest_has k [] r h low = h
rest_has k (x ∷ xs) r h low =
    ⊎_elim
    (λ e.
    subst (λ ys. has ys r ≡ true) (sym (rest_skip (start k) x xs e))
    (⊎_elim
    (λ i. let b = before_start k r (subst (λ y. before y (start k) ≡ true) i e) in let no_way : ⊥ = omega arith in absurd no_way)
    (λ i. rest_has k xs r i low) (has_cases x xs r h)))
    (λ e. subst (λ ys. has ys r ≡ true) (sym (rest_stop (start k) x xs e)) h)
    (cases_Bool (before x (start k)))

-- the rows that went in are among those that were added

taken_held : (m : Limits) (xs rs : List Row) (r : Row) → has (taken m xs rs) r ≡ true → has rs r ≡ true
unfolding taken
taken_held m xs [] r h = h
taken_held m xs (x ∷ rs) r h =
    ⊎_elim
    (λ p.
    ⊎_elim (λ i. has_at x rs r i) (λ i. has_tail x rs r (taken_held m (insert x xs) rs r i))
    (has_cases x (taken m (insert x xs) rs) r (subst (λ ys. has ys r ≡ true) (taken_in m x rs xs p) h)))
    (λ p. has_tail x rs r (taken_held m xs rs r (subst (λ ys. has ys r ≡ true) (taken_out m x rs xs p) h)))
    (cases_Bool (went_in (add_answer m xs x)))

joined_held : (xs ys : List Row) (r : Row) → has (joined xs ys) r ≡ true → (has xs r ≡ true) ⊎ (has ys r ≡ true)
unfolding joined
joined_held xs [] r h = inl h
joined_held xs (y ∷ ys) r h =
    ⊎_elim
    (λ i.
    ⊎_elim (λ e. inr (has_at y ys r (same_is y r e))) (λ e. inl (sym (ap (λ b. b || has xs r) e) ∙ sym (has_insert y r xs) ∙ i))
    (cases_Bool (same y r)))
    (λ i. inr (has_tail y ys r i)) (joined_held (insert y xs) ys r h)

-- On a table that was empty, a listing gives the derived rows of the file's facts.
module _ {S : Type 0} (M : Meaning S) where
  module _ (s t : S) (facts : List Row) (empty : M.rows s ≡ []) (took : Took M s facts t) where
    only_facts : Sub (Among (M.rows t)) (Among facts)
    only_facts r i =
        T_from (has facts r)
        (⊎_elim (λ j. absurd (has_none r (subst (λ ys. has ys r ≡ true) empty j))) (taken_held (M.bounds s) (M.rows s) facts r)
        (joined_held (M.rows s) (taken (M.bounds s) (M.rows s) facts) r
        (subst (λ ys. has ys r ≡ true) took.filled.held (T_is (has (M.rows t) r) i))))

    all_facts : Sub (Among facts) (Among (M.rows t))
    all_facts r i = T_from (has (M.rows t) r) (all_has (λ q. has (M.rows t) q ≡ true) facts r took.held (T_is (has facts r) i))

  pub lists : (bytes : List ℕ) (s u : S) (found : List Row) → Lawful (M.bounds u) (M.rows u)
      → Listing M bytes s (Ok found) u → Lists bytes found
  lists bytes s u found law h =
      let t = h.0 in
      let l = h.1.1.1.0 in
      let d = h.1.1.1.1 in
      let is = h.1.1.1.2 in
      let empty = h.1.1.1.3 in
      let facts = l.0 in
      let took = l.1.0 in
      let w = adds_completed M.rows M.grew d.1 in
      let to = only_facts s t facts empty took in
      let from = all_facts s t facts empty took in
      let held : (r : Row) → Completed (M.rows u) r → has (M.rows u) r ≡ true =
      λ r m. ⊎_elim (λ e. e) (λ e. absurd (d.2 r (m, T_not (has (M.rows u) r) e))) (cases_Bool (has (M.rows u) r)) in (
        facts,
        (
          took.are,
          l.1.1,
          record {
            ascending = subst Asc (sym is) (asc_rest (start 18) (M.rows u) law.ascending);
            all = λ r. (
              λ i.
                  let j = subst (λ ys. has ys r ≡ true) is i in (
                    rest_high 18 (M.rows u) r law.ascending j,
                    complete_same program (Among (M.rows t)) (Among facts) to from r (w.0 r (complete_keeps program (Among (M.rows u)) r (T_from (has (M.rows u) r) (rest_held 18 (M.rows u) r j)))),
                  ),
              λ i.
                  subst (λ ys. has ys r ≡ true) (sym is)
                  (rest_has 18 (M.rows u) r (held r (w.1 r (complete_same program (Among facts) (Among (M.rows t)) from to r i.1))) i.0),
            );
          },
        ),
      )

-- A run begins on an empty table, and on no other.

pub began : (xs : List Row) (f : Filling) → Ok f ≡ begun xs → xs ≡ []
began [] f e = refl
began (x ∷ xs) f e = absurd (let z : ◌≡◌ {A = ℕ} 0 1 = cc in omega arith)

module _ {S : Type 0} (M : Meaning S) (bytes : List ℕ) where
  -- an advance is refused by the table alone
  pub not_derived : (s t u : S) (n : ℕ) (f : RunFault) → Loading M bytes s (Ok n) t → Stopping M most t f u → Refusing M bytes s f u
  not_derived s t u n NotEmpty l h = absurd h
  not_derived s t u n NotFact l h = absurd h
  not_derived s t u n RowsMissing l h = absurd h
  not_derived s t u n (Refused refusal) l h = absurd h
  not_derived s t u n (Stopped stop) l h = (t, (n, (l, h)))

pub ruleset listings = (began, not_derived)

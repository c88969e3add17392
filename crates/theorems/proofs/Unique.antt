-- The completion is the only set that has the rows given, is closed under each rule and has no more than it must.
use Rattle.std.proofs.Common.{◌≡◌, ℕ, zero, suc, ◌+◌, ◌<◌, ◌≤◌, Bool, true, T, eqb, ◌⊎◌, ◌↔◌, List, [], ◌∷◌, length, refl, subst, inl, inr, ⊎_elim, arith}
use Rattle.std.proofs.lemmas.Bool.{and_parts, eqb-true, cases_lt, cases_eq}
use Rattle.rows.specs.declared.row.Row.{Row}
use Rattle.rows.specs.Rows.{has}
use Rattle.datalog.specs.Contents.{Content, Among}
use Rattle.datalog.specs.Datalog.{Rule, least, complete, stratified}
use Rattle.datalog.proofs.Engine.{some_local, some_mono}
use Rattle.datalog.proofs.Complete.{strata, least_other}
use Rattle.output.specs.Program.{program, rule_of}
use Rattle.output.specs.Completion.{Completed}
use Rattle.output.specs.Tabled.{consecutive}
use Rattle.output.specs.Ruled.{program_stratified, rule_reads}
use Rattle.theorems.specs.Numbers.{Lists}
use Rattle.theorems.specs.Definitions.{IsCompletion, CompletionUnique, CompletionIsOne}
use Rattle.theorems.proofs.Defined.{completion_has, completion_closed, completion_least, completion_facts}
use Rattle.theorems.proofs.Exists.{completion_listed}

-- Rules of relations one after the other add nothing to the relations past the last.
past_rules : (low : ℕ) (Rs : List Rule) → stratified low Rs ≡ true → consecutive low Rs ≡ true → (H : Content) (r : Row) → low + length Rs ≤ r.relation → complete Rs H r → H r
past_rules low [] w u H r h m = m
past_rules low (R ∷ Rs) w u H r h m =
    let st = strata low R Rs w in
    let a = and_parts (eqb R.relation low) (consecutive (suc low) Rs) u in
    let e : R.relation ≡ low = eqb-true _ _ a.0 in
    least_other R st.read H r (λ d. omega arith)
    (past_rules (suc low) Rs (subst (λ n. stratified (suc n) Rs ≡ true) e st.later) a.1 (least R H) r (omega arith) m)

pub past_derived : (rows : List Row) (r : Row) → 40 ≤ r.relation → Completed rows r → Among rows r
past_derived rows r h m = past_rules 18 program program_stratified refl (Among rows) r h m

module _ (rows : List Row) (set : Row → Bool) (is : IsCompletion rows set) where
  abbrev Same : Row → Type 0
  Same r = Completed rows r ↔ T (set r)

  outside : (r : Row) → (r.relation < 18) ⊎ (40 ≤ r.relation) → Same r
  outside r o = (
    λ m. is.has r (⊎_elim (λ l. completion_facts rows r l m) (λ l. past_derived rows r l m) o),
    λ m. completion_has rows r (is.derived r m o),
  )

  module _ (k : ℕ) (low : 18 ≤ k) (high : k < 40) (below : (r : Row) → r.relation < k → Same r) where
    -- up to the relation, as far as its own rows are in a set
    up_to : (P Q : Content) → ((s : Row) → s.relation < k → P s → Q s) → (s : Row) → s.relation ≤ k → P s × (s.relation ≡ k → Q s) → Q s
    up_to P Q f s le h = ⊎_elim (λ e. h.1 e) (λ d. f s (omega arith) h.0) (cases_eq s.relation k)

    inside : (r : Row) → r.relation ≡ k → Completed rows r → T (set r)
    inside =
        completion_least rows k low high set (λ r e h. is.has r h)
        (λ r p. is.closed k low high r
        (some_local k (λ s. Completed rows s × (s.relation ≡ k → T (set s))) (λ s. T (set s)) (Completed rows) (λ s. T (set s))
        (up_to (Completed rows) (λ s. T (set s)) (λ s l. (below s l).0)) (λ s l. (below s l).1)
        (rule_of k).clauses (rule_reads k) r p))

    whole : List Row
    whole = (completion_listed rows).0

    lists : Lists whole (Completed rows)
    unfolding whole
    lists = (completion_listed rows).1

    from_listed : (r : Row) → r.relation ≡ k → T (set r) → Completed rows r
    from_listed r e m =
        (lists r).1 (is.least k low high (has whole) (λ s g h. (lists s).0 (completion_has rows s h))
        (λ s p. (lists s).0 (completion_closed rows k low high s
        (some_local k (λ t. T (set t) × (t.relation ≡ k → Among whole t)) (Completed rows) (λ t. T (set t)) (Completed rows)
        (λ t le h. up_to (λ u. T (set u)) (Completed rows) (λ u l. (below u l).1) t le (h.0, λ g. (lists t).1 (h.1 g)))
        (λ t l. (below t l).0) (rule_of k).clauses (rule_reads k) s p))) r e m)

  all_below : (k : ℕ) (r : Row) → r.relation < k → Same r
  all_below zero r h = absurd (omega arith)
  all_below (suc k) r h =
      ⊎_elim
      (λ (e : r.relation ≡ k).
      ⊎_elim (λ (l : k < 18). outside r (inl (omega arith)))
      (λ (l : 18 ≤ k).
      ⊎_elim (λ (u : k < 40). (inside k l u (all_below k) r e, from_listed k l u (all_below k) r e))
      (λ (u : 40 ≤ k). outside r (inr (omega arith))) (cases_lt k 40))
      (cases_lt k 18))
      (λ d. all_below k r (omega arith))
      (cases_eq r.relation k)

pub completion_unique : CompletionUnique
completion_unique rows set is r = all_below rows set is (suc r.relation) r (omega arith)

pub completion_is_one : CompletionIsOne
completion_is_one rows set e = record {
  has = λ r h. (e r).0 (completion_has rows r h);
  derived = λ r m. ⊎_elim (λ l. completion_facts rows r l ((e r).1 m)) (λ l. past_derived rows r l ((e r).1 m));
  closed = λ k low high r p. (e r).0 (completion_closed rows k low high r
      (some_mono (λ s. T (set s)) (Completed rows) (λ s. T (set s)) (Completed rows) (λ s. (e s).1) (λ s. (e s).0) (rule_of k).clauses r p));
  least = λ k low high other base step r g m.
      completion_least rows k low high other base
      (λ s p. step s (some_mono (λ t. Completed rows t × (t.relation ≡ k → T (other t))) (λ t. T (set t) × (t.relation ≡ k → T (other t))) (Completed rows) (λ t. T (set t))
      (λ t h. ((e t).0 h.0, h.1)) (λ t. (e t).1) (rule_of k).clauses s p))
      r g ((e r).1 m);
}

-- Naive errors are among the location-insensitive ones.
use Rattle.std.proofs.Common.{◌≡◌, ℕ, ◌≢◌, ◌⊎◌, List, [], ◌∷◌, sym, refl, ◌∙◌, subst, inl, inr, lit<, lit≤}
use Rattle.rows.specs.declared.row.Row.{Row}
use Rattle.rows.specs.Relations.{universal_region, loan_invalidated_at, known_placeholder_subset, placeholder, known_contains, known_placeholder_subset_closed, subset, origin_contains_loan_on_entry, loan_live_at, errors, subset_errors, origin_contains_loan_anywhere, potential_errors, potential_subset_errors}
use Rattle.datalog.specs.Contents.{Content, Among}
use Rattle.datalog.specs.Datalog.{Proposes}
use Rattle.datalog.proofs.Engine.{complete_keeps}
use Rattle.output.specs.Variables.{Origin, Origin1, Origin2, Origin3, Loan, Point}
use Rattle.output.specs.Known.{known_contains_rule, known_placeholder_subset_closed_rule}
use Rattle.output.specs.Naive.{subset_rule, origin_contains_loan_on_entry_rule, loan_live_at_rule, errors_rule, subset_errors_rule}
use Rattle.output.specs.LocationInsensitive.{origin_contains_loan_anywhere_rule, potential_errors_rule, potential_subset_errors_rule}
use Rattle.output.specs.Program.{program}
use Rattle.output.specs.Completion.{Completed}
use Rattle.theorems.specs.Compared.{FactsAlone, LoanErrorsCompared, OwnPlaceholder, EachOwnsPlaceholder, SubsetErrorsCompared}
use Rattle.theorems.proofs.Programmed.{assigned, closed, induct, fact, in_known_contains, in_known_placeholder_subset_closed, in_subset, in_origin_contains_loan_on_entry, in_loan_live_at, in_errors, in_subset_errors, in_origin_contains_loan_anywhere, in_potential_errors, in_potential_subset_errors}

-- what the steps of an induction may use of the relation's own rows
abbrev Under : List Row → ℕ → Content → Content
Under rows k S s = Completed rows s × (s.relation ≡ k → S s)

-- The origins of a subset differ.
abbrev Apart : Content
Apart r = r.a ≢ r.b

module _ (rows : List Row) (f : FactsAlone rows) where
  anywhere_closed : (r : Row) → Proposes origin_contains_loan_anywhere_rule (Completed rows) (Completed rows) r → Completed rows r
  anywhere_closed = closed origin_contains_loan_anywhere_rule in_origin_contains_loan_anywhere rows

  apart_step : (r : Row) → Proposes subset_rule (Under rows 32 Apart) (Completed rows) r → Apart r
  apart_step r (inl (v, e, (h, (d, u)))) = subst Apart (sym e) d
  apart_step r (inr (inl (v, e, (h, (g, (d, u)))))) = subst Apart (sym e) d
  apart_step r (inr (inr (inl (v, e, (h, (g, (x, (y, (d, u))))))))) = subst Apart (sym e) d
  apart_step r (inr (inr (inr n))) = absurd n

  pub apart : (r : Row) → r.relation ≡ 32 → Completed rows r → Apart r
  apart = induct subset_rule in_subset rows f (lit≤ tt) Apart apart_step

  -- A subset at a point carries every loan along, the point forgotten.
  abbrev Carries : Content
  Carries r = (loan : ℕ) → Completed rows (origin_contains_loan_anywhere r.a loan) → Completed rows (origin_contains_loan_anywhere r.b loan)

  carries_step : (r : Row) → Proposes subset_rule (Under rows 32 Carries) (Completed rows) r → Carries r
  carries_step r (inl (v, e, (h, (d, u)))) =
      subst Carries (sym e) (λ l k. anywhere_closed (origin_contains_loan_anywhere (v Origin2) l)
      (inr (inr (inl (assigned ((Origin1, v Origin1) ∷ (Origin2, v Origin2) ∷ (Loan, l) ∷ (Point, v Point) ∷ []), refl, (k, (h.0, tt)))))))
  carries_step r (inr (inl (v, e, (h, (g, (d, u)))))) = subst Carries (sym e) (λ l k. g.1 refl l (h.1 refl l k))
  carries_step r (inr (inr (inl (v, e, (h, (g, (x, (y, (d, u))))))))) = subst Carries (sym e) (λ l k. h.1 refl l k)
  carries_step r (inr (inr (inr n))) = absurd n

  carries : (r : Row) → r.relation ≡ 32 → Completed rows r → Carries r
  carries = induct subset_rule in_subset rows f (lit≤ tt) Carries carries_step

  -- What an origin contains on entry to a point, it contains anywhere.
  abbrev Anywhere : Content
  Anywhere r = Completed rows (origin_contains_loan_anywhere r.a r.b)

  anywhere_step : (r : Row) → Proposes origin_contains_loan_on_entry_rule (Under rows 33 Anywhere) (Completed rows) r → Anywhere r
  anywhere_step r (inl (v, e, (h, u))) =
      subst Anywhere (sym e) (anywhere_closed (origin_contains_loan_anywhere (v Origin) (v Loan)) (inl (v, refl, (h.0, tt))))
  anywhere_step r (inr (inl (v, e, (h, (g, u))))) =
      subst Anywhere (sym e) (carries (subset (v Origin1) (v Origin2) (v Point)) refl g.0 (v Loan) (h.1 refl))
  anywhere_step r (inr (inr (inl (v, e, (h, u))))) = subst Anywhere (sym e) (h.1 refl)
  anywhere_step r (inr (inr (inr n))) = absurd n

  anywhere : (r : Row) → r.relation ≡ 33 → Completed rows r → Anywhere r
  anywhere = induct origin_contains_loan_on_entry_rule in_origin_contains_loan_on_entry rows f (lit≤ tt) Anywhere anywhere_step

  -- A live loan, where it is invalidated, is a potential error.
  abbrev Potential : Content
  Potential r = Completed rows (loan_invalidated_at r.b r.a) → Completed rows (potential_errors r.a r.b)

  live_step : (r : Row) → Proposes loan_live_at_rule (Under rows 34 Potential) (Completed rows) r → Potential r
  live_step r (inl (v, e, (h, (g, u)))) =
      subst Potential (sym e) (λ k. closed potential_errors_rule in_potential_errors rows (potential_errors (v Loan) (v Point))
      (inl (v, refl, (anywhere (origin_contains_loan_on_entry (v Origin) (v Loan) (v Point)) refl h.0, (g.0, (k, tt))))))
  live_step r (inr n) = absurd n

  live : (r : Row) → r.relation ≡ 34 → Completed rows r → Potential r
  live = induct loan_live_at_rule in_loan_live_at rows f (lit≤ tt) Potential live_step

  abbrev PotentialError : Content
  PotentialError r = Completed rows (potential_errors r.a r.b)

  error_step : (r : Row) → Proposes errors_rule (Under rows 35 PotentialError) (Completed rows) r → PotentialError r
  error_step r (inl (v, e, (h, (g, u)))) = subst PotentialError (sym e) (live (loan_live_at (v Loan) (v Point)) refl g.0 h.0)
  error_step r (inr n) = absurd n

  -- A known loan came from an origin that has it as its placeholder loan, along known subsets.
  abbrev Reaches : ℕ → ℕ → Type 0
  Reaches o b = (o ≡ b) ⊎ Completed rows (known_placeholder_subset_closed o b)

  abbrev KnownFrom : Content
  KnownFrom r = (o : ℕ) × Completed rows (placeholder o r.b) × Reaches o r.a

  reaches : (o a b : ℕ) → Completed rows (known_placeholder_subset a b) → Reaches o a → Reaches o b
  reaches o a b k (inl e) =
      inr (closed known_placeholder_subset_closed_rule in_known_placeholder_subset_closed rows (known_placeholder_subset_closed o b)
      (inl (assigned ((Origin1, o) ∷ (Origin2, b) ∷ []), refl, (subst (λ n. Completed rows (known_placeholder_subset n b)) (sym e) k, tt))))
  reaches o a b k (inr m) =
      inr (closed known_placeholder_subset_closed_rule in_known_placeholder_subset_closed rows (known_placeholder_subset_closed o b)
      (inr (inl (assigned ((Origin1, o) ∷ (Origin2, a) ∷ (Origin3, b) ∷ []), refl, (m, (k, tt))))))

  known_step : (r : Row) → Proposes known_contains_rule (Under rows 30 KnownFrom) (Completed rows) r → KnownFrom r
  known_step r (inl (v, e, (h, u))) = subst KnownFrom (sym e) (v Origin, h.0, inl refl)
  known_step r (inr (inl (v, e, (h, (g, u))))) =
      let w = h.1 refl in
      subst KnownFrom (sym e) (w.0, w.1, reaches w.0 (v Origin1) (v Origin2) g.0 w.2)
  known_step r (inr (inr n)) = absurd n

  known_from : (r : Row) → r.relation ≡ 30 → Completed rows r → KnownFrom r
  known_from = induct known_contains_rule in_known_contains rows f (lit≤ tt) KnownFrom known_step

  abbrev PotentialSubsetError : Content
  PotentialSubsetError r = Completed rows (potential_subset_errors r.a r.b)

  module _ (own : EachOwnsPlaceholder rows) where
    unknown : (a b p : ℕ) → Completed rows (subset a b p) → (¬ Completed rows (known_placeholder_subset_closed a b))
        → (t : OwnPlaceholder rows a) → ¬ Completed rows (known_contains b t.0)
    unknown a b p s n t m =
        let w = known_from (known_contains b t.0) refl m in
        refute w.0 (t.2 w.0 (fact rows (placeholder w.0 t.0) (lit< tt) w.1)) w.2
      where
        refute : (o : ℕ) → o ≡ a → Reaches o b → ⊥
        refute o e (inl g) = apart (subset a b p) refl s (sym e ∙ g)
        refute o e (inr k) = n (subst (λ x. Completed rows (known_placeholder_subset_closed x b)) e k)

    subset_error_step : (r : Row) → Proposes subset_errors_rule (Under rows 36 PotentialSubsetError) (Completed rows) r → PotentialSubsetError r
    subset_error_step r (inl (v, e, (h, (k, (i, (n, u)))))) =
        let a = v Origin1 in
        let b = v Origin2 in
        let t = own a (fact rows (universal_region a) (lit< tt) k.0) in
        let loan = t.0 in
        let owned : Completed rows (placeholder a loan) = complete_keeps program (Among rows) (placeholder a loan) t.1 in
        let contained : Completed rows (origin_contains_loan_anywhere a loan) =
        anywhere_closed (origin_contains_loan_anywhere a loan) (inr (inl (assigned ((Origin, a) ∷ (Loan, loan) ∷ []), refl, (owned, tt)))) in
        let at = subset a b (v Point) in
        subst PotentialSubsetError (sym e)
        (closed potential_subset_errors_rule in_potential_subset_errors rows (potential_subset_errors a b)
        (inl (
          assigned ((Origin1, a) ∷ (Origin2, b) ∷ (Loan, loan) ∷ []),
          refl,
          (
            carries at refl h.0 loan contained,
            (owned, (i.0, (unknown a b (v Point) h.0 n t, (apart at refl h.0, tt)))),
          ),
        )))
    subset_error_step r (inr n) = absurd n

pub loan_errors_compared : LoanErrorsCompared
loan_errors_compared rows f l p m =
    induct errors_rule in_errors rows f (lit≤ tt) (PotentialError rows f) (error_step rows f) (errors l p) refl m

pub subset_errors_compared : SubsetErrorsCompared
subset_errors_compared rows f own a b p m =
    induct subset_errors_rule in_subset_errors rows f (lit≤ tt) (PotentialSubsetError rows f) (subset_error_step rows f own) (subset_errors a b p) refl m

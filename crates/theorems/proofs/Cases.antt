-- The cases, by computation.
use Rattle.std.proofs.Common.{◌≡◌, ℕ, Bool, true, not, ◌&&◌, eqb, List, [], ◌∷◌, ◌++◌, length, sym, refl, ap, ◌∙◌, subst, ⊎_elim}
use Rattle.std.proofs.lemmas.Bool.{and_parts, not-true, eq-eqb, cond-true, cond_both}
use Rattle.rows.specs.declared.row.Row.{Row}
use Rattle.rows.specs.Rows.{has, same, of_relation}
use Rattle.rows.specs.Relations.{universal_region, cfg_edge, subset_base, child_path, path_moved_at_base, path_accessed_at_base, move_error, origin_live_on_entry, subset, errors, subset_errors, potential_errors, potential_subset_errors}
use Rattle.datalog.specs.Contents.{Among}
use Rattle.datalog.proofs.Truths.{T_not}
use Rattle.datalog.proofs.Engine.{has_here, has_there, has_cons, has_none}
use Rattle.output.specs.Program.{program}
use Rattle.output.specs.Completion.{Missing}
use Rattle.theorems.specs.Numbers.{Lists, Distinct}
use Rattle.theorems.specs.Cases.{Tells, Derives, used_loan, used_loan_derived, UsedLoan, killed_loan, killed_loan_derived, KilledLoan, MovedThenAccessed, MovedNotReached, ChildMoved, three_regions, KnownSubset, UnknownSubset, two_regions, NoPlaceholder, shared_placeholder, SharedPlaceholder, MutualSubset, RegionNowhere, RegionLive}
use Rattle.theorems.proofs.Proposals.{has_either}
use Rattle.theorems.proofs.Runs.{within, run, ended, all_ranged, within_has, run_completes}

program_ranged : all_ranged program ≡ true
program_ranged = refl

-- the rows of one relation
of_relation_has : (k : ℕ) (rows : List Row) (r : Row) → r.relation ≡ k → Among rows r → Among (of_relation k rows) r
unfolding of_relation
of_relation_has k [] r e h = absurd (has_none r h)
of_relation_has k (s ∷ rows) r e h =
    has_cons s rows r h
    (λ i. subst (λ l. Among l r) (sym (cond-true (eqb s.relation k) (s ∷ of_relation k rows) (of_relation k rows) (eq-eqb _ _ (ap (λ (t : Row). t.relation) i ∙ e))))
    (subst (Among (s ∷ of_relation k rows)) i (has_here s (of_relation k rows))))
    (λ m. cond_both (eqb s.relation k) (s ∷ of_relation k rows) (of_relation k rows) (λ l. Among l r)
    (λ _. has_there s (of_relation k rows) r (of_relation_has k rows r e m)) (λ _. of_relation_has k rows r e m))

-- no row of one list is in the other, and no row stands twice
abbrev disjoint : List Row → List Row → Bool
disjoint [] d = true
disjoint (r ∷ rs) d = not (has d r) && disjoint rs d

abbrev distinct : List Row → Bool
distinct [] = true
distinct (r ∷ rs) = not (has rs r) && distinct rs

not_both : (l d : List Row) (r : Row) → disjoint l d ≡ true → Among l r → ¬ Among d r
not_both [] d r h m = absurd (has_none r m)
not_both (s ∷ l) d r h m =
    let a = and_parts (not (has d s)) (disjoint l d) h in
    has_cons s l r m (λ e. subst (λ t. ¬ Among d t) e (T_not _ (not-true _ a.0))) (λ k. not_both l d r a.1 k)

is_distinct : (l : List Row) → distinct l ≡ true → Distinct l
is_distinct [] h = tt
is_distinct (r ∷ rs) h =
    let a = and_parts (not (has rs r)) (distinct rs) h in (T_not _ (not-true _ a.0), is_distinct rs a.1)

-- rounds enough for each relation of the cases
abbrev rounds : ℕ
rounds = 9

module _ (facts : List Row) where
  abbrev whole : List Row
  whole = run rounds program facts

  tells : (k : ℕ) (rows : List Row) → ended rounds program facts ≡ true → within (of_relation k whole) rows ≡ true → within rows whole ≡ true → Tells facts k rows
  tells k rows e f g r i =
      let w = run_completes rounds program facts program_ranged e r in (
        λ m. within_has (of_relation k whole) rows r f (of_relation_has k whole r i (w.0 m)),
        λ m. w.1 (within_has rows whole r g m),
      )

  derives : (rows : List Row) (many : ℕ) → ended rounds program facts ≡ true → within whole (rows ++ facts) ≡ true → within rows whole ≡ true
      → disjoint rows facts ≡ true → distinct rows ≡ true → length rows ≡ many → Derives facts rows many
  derives rows many e f g d u l = (lists, is_distinct rows u, l)
    where
      lists : Lists rows (Missing facts)
      lists r =
          let w = run_completes rounds program facts program_ranged e r in (
            λ m. ⊎_elim (λ k. k) (λ k. absurd (m.1 k)) (has_either rows facts r (within_has whole (rows ++ facts) r f (w.0 m.0))),
            λ m. (w.1 (within_has rows whole r g m), not_both rows facts r d m),
          )

pub used_loan_case : UsedLoan
unfolding has same of_relation
used_loan_case = (
  derives used_loan used_loan_derived 22 refl refl refl refl refl refl,
  tells used_loan 35 (errors 0 2 ∷ []) refl refl refl,
  tells used_loan 38 (potential_errors 0 2 ∷ []) refl refl refl,
)

pub killed_loan_case : KilledLoan
unfolding has same of_relation
killed_loan_case = (
  derives killed_loan killed_loan_derived 17 refl refl refl refl refl refl,
  tells killed_loan 35 [] refl refl refl,
  tells killed_loan 38 (potential_errors 0 2 ∷ []) refl refl refl,
)

pub moved_then_accessed : MovedThenAccessed
unfolding has same of_relation
moved_then_accessed =
    tells (path_moved_at_base 0 0 ∷ cfg_edge 0 1 ∷ path_accessed_at_base 0 1 ∷ []) 26 (move_error 0 1 ∷ []) refl refl refl

pub moved_not_reached : MovedNotReached
unfolding has same of_relation
moved_not_reached = tells (path_moved_at_base 0 0 ∷ path_accessed_at_base 0 1 ∷ []) 26 [] refl refl refl

pub child_moved : ChildMoved
unfolding has same of_relation
child_moved =
    tells (child_path 1 0 ∷ path_moved_at_base 1 0 ∷ cfg_edge 0 1 ∷ path_accessed_at_base 0 1 ∷ []) 26 (move_error 1 1 ∷ []) refl refl refl

pub known_subset : KnownSubset
unfolding has same of_relation
known_subset = (
  tells (subset_base 0 2 0 ∷ three_regions) 36 [] refl refl refl,
  tells (subset_base 0 2 0 ∷ three_regions) 39 [] refl refl refl,
)

pub unknown_subset : UnknownSubset
unfolding has same of_relation
unknown_subset = (
  tells (subset_base 2 0 0 ∷ three_regions) 36 (subset_errors 2 0 0 ∷ []) refl refl refl,
  tells (subset_base 2 0 0 ∷ three_regions) 39 (potential_subset_errors 2 0 ∷ []) refl refl refl,
)

pub no_placeholder : NoPlaceholder
unfolding has same of_relation
no_placeholder = (tells two_regions 36 (subset_errors 0 1 0 ∷ []) refl refl refl, tells two_regions 39 [] refl refl refl)

pub shared_placeholder_case : SharedPlaceholder
unfolding has same of_relation
shared_placeholder_case = (
  tells shared_placeholder 36 (subset_errors 0 1 0 ∷ []) refl refl refl,
  tells shared_placeholder 39 [] refl refl refl,
)

pub mutual_subset : MutualSubset
unfolding has same of_relation
mutual_subset = tells (subset_base 0 1 0 ∷ subset_base 1 0 0 ∷ []) 32 (subset 0 1 0 ∷ subset 1 0 0 ∷ []) refl refl refl

pub region_nowhere : RegionNowhere
unfolding has same of_relation
region_nowhere = tells (universal_region 0 ∷ []) 29 [] refl refl refl

pub region_live : RegionLive
unfolding has same of_relation
region_live = tells (universal_region 0 ∷ cfg_edge 0 1 ∷ []) 29 (origin_live_on_entry 0 0 ∷ origin_live_on_entry 0 1 ∷ []) refl refl refl

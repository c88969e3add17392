-- The program's rules one by one: their completions are closed, and are reached by induction.
use Rattle.std.proofs.Common.{◌≡◌, ℕ, ◌<◌, ◌≤◌, cond, eqb, List, [], ◌∷◌, arith, lit<, lit≤}
use Rattle.rows.specs.declared.row.Row.{Row}
use Rattle.datalog.specs.Contents.{Content, Among}
use Rattle.datalog.specs.Datalog.{Rule, Proposes}
use Rattle.datalog.proofs.Complete.{In, complete_below, complete_closed, complete_induct}
use Rattle.output.specs.Known.{known_contains_rule, known_placeholder_subset_closed_rule}
use Rattle.output.specs.Naive.{subset_rule, origin_contains_loan_on_entry_rule, loan_live_at_rule, errors_rule, subset_errors_rule}
use Rattle.output.specs.LocationInsensitive.{origin_contains_loan_anywhere_rule, potential_errors_rule, potential_subset_errors_rule}
use Rattle.output.specs.Program.{program, rule_of}
use Rattle.output.specs.Completion.{Completed}
use Rattle.output.specs.Ruled.{program_stratified, rule_in}
use Rattle.theorems.specs.Compared.{FactsAlone}

-- the assignment of values to some variables
abbrev pub assigned : List (ℕ × ℕ) → ℕ → ℕ
assigned [] n = 0
assigned ((x, u) ∷ rest) n = cond (eqb n x) u (assigned rest n)

module _ (R : Rule) (i : In R program) (rows : List Row) where
  pub closed : (r : Row) → Proposes R (Completed rows) (Completed rows) r → Completed rows r
  closed r p = complete_closed R 18 program program_stratified i (Among rows) r p

  -- of facts alone, every row of a derived relation is proposed
  module _ (f : FactsAlone rows) (low : 18 ≤ R.relation) (S : Content) where
    pub induct : ((r : Row) → Proposes R (λ s. Completed rows s × (s.relation ≡ R.relation → S s)) (Completed rows) r → S r)
        → (r : Row) → r.relation ≡ R.relation → Completed rows r → S r
    induct step = complete_induct R S 18 program program_stratified i (Among rows) (λ r e m. let g = f r m in absurd (omega arith)) step

-- a fact of the completion is one of the rows
pub fact : (rows : List Row) (r : Row) → r.relation < 18 → Completed rows r → Among rows r
fact rows r h m = complete_below 18 program program_stratified (Among rows) r h m

pub in_known_contains : In known_contains_rule program
unfolding rule_of
in_known_contains = (rule_in 30 (lit≤ tt) (lit< tt)).0

pub in_known_placeholder_subset_closed : In known_placeholder_subset_closed_rule program
unfolding rule_of
in_known_placeholder_subset_closed = (rule_in 31 (lit≤ tt) (lit< tt)).0

pub in_subset : In subset_rule program
unfolding rule_of
in_subset = (rule_in 32 (lit≤ tt) (lit< tt)).0

pub in_origin_contains_loan_on_entry : In origin_contains_loan_on_entry_rule program
unfolding rule_of
in_origin_contains_loan_on_entry = (rule_in 33 (lit≤ tt) (lit< tt)).0

pub in_loan_live_at : In loan_live_at_rule program
unfolding rule_of
in_loan_live_at = (rule_in 34 (lit≤ tt) (lit< tt)).0

pub in_errors : In errors_rule program
unfolding rule_of
in_errors = (rule_in 35 (lit≤ tt) (lit< tt)).0

pub in_subset_errors : In subset_errors_rule program
unfolding rule_of
in_subset_errors = (rule_in 36 (lit≤ tt) (lit< tt)).0

pub in_origin_contains_loan_anywhere : In origin_contains_loan_anywhere_rule program
unfolding rule_of
in_origin_contains_loan_anywhere = (rule_in 37 (lit≤ tt) (lit< tt)).0

pub in_potential_errors : In potential_errors_rule program
unfolding rule_of
in_potential_errors = (rule_in 38 (lit≤ tt) (lit< tt)).0

pub in_potential_subset_errors : In potential_subset_errors_rule program
unfolding rule_of
in_potential_subset_errors = (rule_in 39 (lit≤ tt) (lit< tt)).0

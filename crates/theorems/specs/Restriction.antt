-- The restriction of subset to differing origins, and the rule without it.
use Rattle.std.specs.Prelude.{ℕ, cond, ◌≢◌, ◌↔◌, List, [], ◌∷◌, ◌++◌, nat_lt}
use Rattle.rows.specs.declared.row.Row.{Row}
use Rattle.rows.specs.Relations.{cfg_edge, subset_base, origin_live_on_entry, subset}
use Rattle.datalog.specs.Contents.{Content, Among}
use Rattle.datalog.specs.Datalog.{Rule, ◌⟸◌, rule, complete}
use Rattle.datalog.specs.Datalog.Premise.{holds}
use Rattle.output.specs.Variables.{Origin1, Origin2, Origin3, Point, Point1, Point2}
use Rattle.output.specs.Program.{program}
use Rattle.output.specs.Completion.{Completed}
use Rattle.theorems.specs.Compared.{FactsAlone}

abbrev pub unrestricted_subset_rule : Rule
unrestricted_subset_rule = rule 32 (
    (subset Origin1 Origin2 Point ⟸ holds (subset_base Origin1 Origin2 Point) ∷ []) ∷
    (subset Origin1 Origin3 Point ⟸
    holds (subset Origin1 Origin2 Point) ∷
    holds (subset Origin2 Origin3 Point) ∷ []) ∷
    (subset Origin1 Origin2 Point2 ⟸
    holds (subset Origin1 Origin2 Point1) ∷
    holds (cfg_edge Point1 Point2) ∷
    holds (origin_live_on_entry Origin1 Point2) ∷
    holds (origin_live_on_entry Origin2 Point2) ∷ []) ∷
    [])

-- the rules of the relations below k, of rules in order
abbrev pub rules_below : ℕ → List Rule → List Rule
rules_below k [] = []
rules_below k (R ∷ Rs) = cond (nat_lt R.relation k) (R ∷ rules_below k Rs) []

abbrev pub Unrestricted : List Row → Content
Unrestricted rows = complete (rules_below 32 program ++ unrestricted_subset_rule ∷ []) (Among rows)

-- Of facts alone, subset is the unrestricted least set with the rows of equal origins struck.
abbrev pub SubsetStruck : Type 0
SubsetStruck = (rows : List Row) → FactsAlone rows → (origin1 origin2 point : ℕ)
    → (Completed rows (subset origin1 origin2 point) ↔ (Unrestricted rows (subset origin1 origin2 point) × (origin1 ≢ origin2)))

-- What is proved of the definitions themselves: of least sets, of the completion, and of the number of derived rows.
use Rattle.std.specs.Prelude.{◌≡◌, ℕ, ◌<◌, ◌≤◌, Bool, T, ◌⊎◌, ◌↔◌, List}
use Rattle.rows.specs.declared.row.Row.{Row}
use Rattle.rows.specs.Rows.{insert}
use Rattle.datalog.specs.Contents.{Among}
use Rattle.datalog.specs.Datalog.{Rule, Proposes, least}
use Rattle.output.specs.Program.{rule_of}
use Rattle.output.specs.Completion.{Completed, Missing, Adds}
use Rattle.theorems.specs.Numbers.{Lists, Number}

-- A set, by its test, that has the rows; and one that has what a rule proposes over it, denials taken from the rows.
abbrev pub Has : List Row → (Row → Bool) → Type 0
Has rows set = (r : Row) → Among rows r → T (set r)

abbrev pub Closed : Rule → List Row → (Row → Bool) → Type 0
Closed R rows set = (r : Row) → Proposes R (λ s. T (set s)) (Among rows) r → T (set r)

-- it has the rows, is closed, and is below every other such set
pub record IsLeast (R : Rule) (rows : List Row) (set : Row → Bool) : Type 0 where
  pub has : Has rows set
  pub closed : Closed R rows set
  pub below : (other : Row → Bool) → Has rows other → Closed R rows other → (r : Row) → T (set r) → T (other r)

-- The least set of a rule over rows has the rows and is closed under the rule.
abbrev pub LeastHas : Type 0
LeastHas = (R : Rule) (rows : List Row) (r : Row) → Among rows r → least R (Among rows) r

abbrev pub LeastClosed : Type 0
LeastClosed = (R : Rule) (rows : List Row) (r : Row) → Proposes R (least R (Among rows)) (Among rows) r → least R (Among rows) r

-- It is below every closed set that has the rows.
abbrev pub LeastBelow : Type 0
LeastBelow = (R : Rule) (rows : List Row) (set : Row → Bool) → Has rows set → Closed R rows set → (r : Row) → least R (Among rows) r → T (set r)

-- Two least sets are one, and a test of the least set is it.
abbrev pub LeastUnique : Type 0
LeastUnique = (R : Rule) (rows : List Row) (set other : Row → Bool) → IsLeast R rows set → IsLeast R rows other → (r : Row) → set r ≡ other r

abbrev pub LeastIsLeast : Type 0
LeastIsLeast = (R : Rule) (rows : List Row) (set : Row → Bool) → ((r : Row) → (least R (Among rows) r ↔ T (set r))) → IsLeast R rows set

-- The completion has the rows given, whichever they are, and is closed under every rule.
abbrev pub CompletionHas : Type 0
CompletionHas = (rows : List Row) (r : Row) → Among rows r → Completed rows r

abbrev pub CompletionClosed : Type 0
CompletionClosed = (rows : List Row) (k : ℕ) → 18 ≤ k → k < 40 → (r : Row) → Proposes (rule_of k) (Completed rows) (Completed rows) r → Completed rows r

-- Of each derived relation it has no more than any set that has the rows given of that relation and what its rule proposes
-- over rows of the completion, those of the relation itself being in the set.
abbrev pub CompletionLeast : Type 0
CompletionLeast = (rows : List Row) (k : ℕ) → 18 ≤ k → k < 40 → (set : Row → Bool)
    → ((r : Row) → r.relation ≡ k → Among rows r → T (set r))
    → ((r : Row) → Proposes (rule_of k) (λ s. Completed rows s × (s.relation ≡ k → T (set s))) (Completed rows) r → T (set r))
    → (r : Row) → r.relation ≡ k → Completed rows r → T (set r)

-- Completing adds nothing to the relations below 18.
abbrev pub CompletionFacts : Type 0
CompletionFacts = (rows : List Row) (r : Row) → r.relation < 18 → Completed rows r → Among rows r

-- A set that has the rows given, adds none to relations that have no rule, is closed under each rule, and of each derived
-- relation has no more than any set that has what is given of it and what its rule proposes.
pub record IsCompletion (rows : List Row) (set : Row → Bool) : Type 0 where
  pub has : Has rows set
  pub derived : (r : Row) → T (set r) → (r.relation < 18) ⊎ (40 ≤ r.relation) → Among rows r
  pub closed : (k : ℕ) → 18 ≤ k → k < 40 → (r : Row) → Proposes (rule_of k) (λ s. T (set s)) (λ s. T (set s)) r → T (set r)
  pub least : (k : ℕ) → 18 ≤ k → k < 40 → (other : Row → Bool)
      → ((r : Row) → r.relation ≡ k → Among rows r → T (other r))
      → ((r : Row) → Proposes (rule_of k) (λ s. T (set s) × (s.relation ≡ k → T (other s))) (λ s. T (set s)) r → T (other r))
      → (r : Row) → r.relation ≡ k → T (set r) → T (other r)

-- The completion is such a set, and the only one.
abbrev pub CompletionIsOne : Type 0
CompletionIsOne = (rows : List Row) (set : Row → Bool) → ((r : Row) → (Completed rows r ↔ T (set r))) → IsCompletion rows set

abbrev pub CompletionUnique : Type 0
CompletionUnique = (rows : List Row) (set : Row → Bool) → IsCompletion rows set → (r : Row) → (Completed rows r ↔ T (set r))

-- It goes by which rows are given, and not by how they are listed.
abbrev pub CompletionOne : Type 0
CompletionOne = (rows others : List Row) → ((r : Row) → (Among rows r ↔ Among others r)) → (r : Row) → (Completed rows r ↔ Completed others r)

-- Completing twice changes nothing.
abbrev pub CompletedTwice : Type 0
CompletedTwice = (rows whole : List Row) → Lists whole (Completed rows) → Lists whole (Completed whole)

-- Adding a row of the completion leaves the completion as it is.
abbrev pub CompletionKept : Type 0
CompletionKept = (rows : List Row) (r : Row) → Completed rows r → (s : Row) → (Completed (insert r rows) s ↔ Completed rows s)

-- The number of derived rows is one number.
abbrev pub OneNumber : Type 0
OneNumber = (rows : List Row) (m n : ℕ) → Number (Missing rows) m → Number (Missing rows) n → m ≡ n

-- The least sets, the completion and the derived rows are finite: a list has exactly their rows, and the derived rows have a number.
abbrev pub LeastListed : Type 0
LeastListed = (rows : List Row) (k : ℕ) → (whole : List Row) × Lists whole (least (rule_of k) (Among rows))

abbrev pub CompletionListed : Type 0
CompletionListed = (rows : List Row) → (whole : List Row) × Lists whole (Completed rows)

abbrev pub DerivedNumbered : Type 0
DerivedNumbered = (rows : List Row) → (n : ℕ) × Number (Missing rows) n

-- Where missing rows are added one after the other until none is missing, the number of additions is that of the derived rows.
abbrev pub AdditionsNumber : Type 0
AdditionsNumber = (n : ℕ) (before after : List Row) → Adds (λ rows. rows) (λ s r t. Unit {0}) n before after
    → ((r : Row) → ¬ Missing after r) → Number (Missing before) n

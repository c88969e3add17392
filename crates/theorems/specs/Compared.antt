-- The two analyses compared, over rows that are facts alone.
use Rattle.std.specs.Prelude.{◌≡◌, ℕ, ◌<◌, List}
use Rattle.rows.specs.declared.row.Row.{Row}
use Rattle.rows.specs.Relations.{universal_region, placeholder, errors, subset_errors, potential_errors, potential_subset_errors}
use Rattle.datalog.specs.Contents.{Among}
use Rattle.output.specs.Completion.{Completed}

-- rows of the relations 0 to 17 alone
abbrev pub FactsAlone : List Row → Type 0
FactsAlone rows = (r : Row) → Among rows r → r.relation < 18

-- Every naive loan error is a location-insensitive one.
abbrev pub LoanErrorsCompared : Type 0
LoanErrorsCompared = (rows : List Row) → FactsAlone rows → (loan point : ℕ)
    → Completed rows (errors loan point) → Completed rows (potential_errors loan point)

-- The origin has a placeholder loan that no other origin has.
abbrev pub OwnPlaceholder : List Row → ℕ → Type 0
OwnPlaceholder rows origin =
    (loan : ℕ) × Among rows (placeholder origin loan) × ((other : ℕ) → Among rows (placeholder other loan) → other ≡ origin)

abbrev pub EachOwnsPlaceholder : List Row → Type 0
EachOwnsPlaceholder rows = (origin : ℕ) → Among rows (universal_region origin) → OwnPlaceholder rows origin

-- Where every universal region has such a loan, every naive subset error, its point dropped, is a location-insensitive one.
abbrev pub SubsetErrorsCompared : Type 0
SubsetErrorsCompared = (rows : List Row) → FactsAlone rows → EachOwnsPlaceholder rows → (origin1 origin2 point : ℕ)
    → Completed rows (subset_errors origin1 origin2 point) → Completed rows (potential_subset_errors origin1 origin2)

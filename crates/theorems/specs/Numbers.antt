-- Lists of rows as sets, and numbers of rows.
use Rattle.std.specs.Prelude.{◌≡◌, ℕ, ◌↔◌, List, [], ◌∷◌, length}
use Rattle.rows.specs.declared.row.Row.{Row}
use Rattle.datalog.specs.Contents.{Content, Among}

-- the list has exactly the rows of the content
abbrev pub Lists : List Row → Content → Type 0
Lists rows P = (r : Row) → (P r ↔ Among rows r)

-- no row stands twice
abbrev pub Distinct : List Row → Type 0
Distinct [] = Unit {0}
Distinct (r ∷ rows) = (¬ Among rows r) × Distinct rows

-- A content has n rows: some list of n distinct rows has exactly those.
pub record Number (P : Content) (n : ℕ) : Type 0 where
  pub rows : List Row
  pub distinct : Distinct rows
  pub lists : Lists rows P
  pub many : length rows ≡ n

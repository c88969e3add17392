-- The places number the admissible rows of a width, ascending and with no gap.
use Rattle.std.specs.Prelude.{◌≡◌, ℕ, ◌+◌, ◌*◌, ◌<◌, ◌≤◌, true}
use Rattle.rows.specs.declared.row.Row.{Row}
use Rattle.rows.specs.Rows.{admissible, before}
use Rattle.bit_places.specs.Places.{size, base, place, row_of}

pub record Enumerated (w : ℕ) : Type 0 where
  pub fit : (i : ℕ) → i < base w 40 → admissible w (row_of w i) ≡ true
  pub rise : (i j : ℕ) → i < j → j < base w 40 → before (row_of w i) (row_of w j) ≡ true
  pub within : (r : Row) → admissible w r ≡ true → place w r < base w 40
  pub back : (r : Row) → admissible w r ≡ true → row_of w (place w r) ≡ r
  pub forth : (i : ℕ) → i < base w 40 → place w (row_of w i) ≡ i
  pub part : (r : Row) → admissible w r ≡ true → (base w r.relation ≤ place w r) × (place w r < base w r.relation + size w r.relation)
  pub whole : (k i : ℕ) → k < 40 → base w k ≤ i → i < base w k + size w k → (row_of w i).relation ≡ k
  pub all : base w 40 ≡ w + 34 * (w * w) + 5 * (w * w * w)

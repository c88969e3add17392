-- The first bit that is set, from one on.
use Rattle.std.specs.Prelude.{◌≡◌, ℕ, ◌/◌, ◌%◌, ◌^◌, ◌<◌, ◌≤◌, true, false, List}
use Rattle.bit_places.specs.Bit.{bit}

-- j is that bit, or no bit from i to the end is set and j is not below the end
pub record Sought (ws : List ℕ) (i end j : ℕ) : Type 0 where
  pub start : i ≤ j
  pub clear : (k : ℕ) → i ≤ k → k < j → bit ws k ≡ false
  pub found : j < end → bit ws j ≡ true

-- r is the lowest set digit of w from k on, or 64 where none of its 64 digits from k on is set
pub record Low (w k r : ℕ) : Type 0 where
  pub start : k ≤ r
  pub most : r ≤ 64
  pub clear : (j : ℕ) → k ≤ j → j < r → w / 2 ^ j % 2 ≡ 0
  pub found : r < 64 → w / 2 ^ r % 2 ≡ 1

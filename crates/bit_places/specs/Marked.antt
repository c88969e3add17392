-- The rows whose bits are set, and the words after the bits of rows are set.
use Rattle.std.specs.Prelude.{ℕ, zero, suc, cond, List, [], ◌∷◌}
use Rattle.rows.specs.declared.row.Row.{Row}
use Rattle.bit_places.specs.Places.{place, row_of}
use Rattle.bit_places.specs.Bit.{bit, raised}

-- those at the n places from i on, ascending
unfoldable pub marked : ℕ → List ℕ → ℕ → ℕ → List Row
marked w ws i zero = []
marked w ws i (suc n) = cond (bit ws i) (row_of w i ∷ marked w ws (suc i) n) (marked w ws (suc i) n)

abbrev pub with_bits : ℕ → List Row → List ℕ → List ℕ
with_bits w [] ws = ws
with_bits w (r ∷ rs) ws = with_bits w rs (raised ws (place w r))

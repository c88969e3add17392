-- A bit table opened: its limits, what the opening refuses, the words afterwards.
use Rattle.std.specs.Prelude.{ℕ, ◌+◌, ◌*◌, ◌/◌, Bool, true, false, cond, ◌&&◌, List, ◌++◌, map, length, drop, replicate, Result, nat_le, nat_lt}
use Rattle.std.specs.List.{range_with_len}
use Rattle.rows.specs.declared.answer.Limits.{Limits}
use Rattle.rows.specs.declared.answer.OpenFault.{OpenFault}
use Rattle.rows.specs.Openings.{opening, if_open}
use Rattle.bit_places.specs.Places.{size, base}

-- the limits of a table that opened, and of one that was refused
unfoldable pub each_limit : Bool → ℕ → List ℕ
each_limit live w = map (λ k. cond live (size w k) 0) (range_with_len 0 40)

unfoldable pub bit_limits : Bool → ℕ → Limits
bit_limits live w = record { width = w; total = cond live (base w 40) 0; each = each_limit live w }

-- a width that a bit table takes; and as many bits in so many words as there are admissible rows
abbrev pub fits_width : ℕ → Bool
fits_width w = nat_lt 0 w && nat_le w 32

abbrev pub fits_words : ℕ → ℕ → Bool
fits_words len w = nat_le (w + 34 * (w * w) + 5 * (w * w * w)) (64 * len)

-- what the opening of a bit table over so many words at a width answers
abbrev pub check_answer : ℕ → ℕ → Result (Unit {0}) OpenFault
check_answer len w = opening (fits_width w) (fits_words len w)

-- the first n words cleared
abbrev pub cleared : ℕ → List ℕ → List ℕ
cleared n ws = replicate n 0 ++ drop n ws

-- how many words hold the bits
abbrev pub words_for : ℕ → ℕ
words_for w = (base w 40 + 63) / 64

-- the limits, the width and the words that a making gives
abbrev pub made_live : ℕ → ℕ → Bool
made_live len w = if_open (check_answer len w) true false

abbrev pub made_width : ℕ → ℕ → ℕ
made_width len w = if_open (check_answer len w) w 1

abbrev pub made_limits : ℕ → ℕ → Limits
made_limits len w = bit_limits (made_live len w) (made_width len w)

abbrev pub made_words : List ℕ → ℕ → List ℕ
made_words ws w = if_open (check_answer (length ws) w) (cleared (words_for w) ws) ws

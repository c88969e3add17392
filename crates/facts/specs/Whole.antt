-- Whole files, read record by record.
use Rattle.std.specs.Prelude.{◌≡◌, ℕ, List, ◌++◌, length}
use Rattle.std.specs.List.{AllByRecursion}
use Rattle.rows.specs.declared.row.Row.{Row}
use Rattle.facts.specs.declared.record.Record.{Record}
use Rattle.facts.specs.declared.whole.WholeFault.{WholeFault}
use Rattle.facts.specs.declared.whole.WholeFault.TheVariants.{Unread, NoMemory}
use Rattle.facts.specs.Format.{Fact, file, records, Refused, fault_offset}

-- The bytes are the file of some facts, and the records are those.
abbrev pub ReadWhole : List ℕ → List Record → Type 0
ReadWhole bytes xs = (rows : List Row) × (AllByRecursion Fact rows × (xs ≡ records 0 rows) × (bytes ≡ file rows))

-- The bytes are the file of so many facts.
abbrev pub CountedWhole : List ℕ → ℕ → Type 0
CountedWhole bytes n = (rows : List Row) × (AllByRecursion Fact rows × (n ≡ length rows) × (bytes ≡ file rows))

-- The file of some facts comes first in the bytes, and what follows it begins with no record; or memory ran out.
abbrev pub Stopped : List ℕ → WholeFault → Type 0
Stopped bytes (Unread fault) =
    (rows : List Row) × ((rest : List ℕ) × (AllByRecursion Fact rows × (bytes ≡ file rows ++ rest) × (fault_offset fault ≡ length (file rows)) × Refused rest fault))
Stopped bytes NoMemory = Unit {0}

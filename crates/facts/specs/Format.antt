-- The facts file: records one after another, each the mark of its relation and then its codes.
use Rattle.std.specs.Prelude.{◌≡◌, ℕ, ◌+◌, ◌*◌, ◌/◌, ◌%◌, ◌<◌, ◌≤◌, true, List, [], ◌∷◌, ◌++◌, length, take, Some, None, Ok, Err, codes, Option, Result, slice_index_or}
use Rattle.rows.specs.declared.row.Row.{Row}
use Rattle.rows.specs.Rows.{admissible, places}
use Rattle.facts.specs.declared.record.Record.{Record}
use Rattle.facts.specs.declared.record.ReadFault.{ReadFault}
use Rattle.facts.specs.declared.record.ReadFault.TheVariants.{LoneByte, UnknownMark, Cut}

-- The marks of relations 0 to 17, two letters each, six relations to a line.
abbrev pub marks : List (List ℕ)
marks =
    codes "LI" ∷ codes "UR" ∷ codes "CE" ∷ codes "LK" ∷ codes "SB" ∷ codes "LV"
    ∷ codes "VU" ∷ codes "VD" ∷ codes "VX" ∷ codes "UD" ∷ codes "DD" ∷ codes "CP"
    ∷ codes "PV" ∷ codes "PA" ∷ codes "PM" ∷ codes "PC" ∷ codes "KS" ∷ codes "PL"
    ∷ []

abbrev pub mark : ℕ → List ℕ
mark relation = slice_index_or marks relation []

-- A code takes two bytes, the low one first.
abbrev pub two_bytes : ℕ → List ℕ
two_bytes n = n % 256 ∷ n / 256 ∷ []

abbrev pub bytes_of : List ℕ → List ℕ
bytes_of [] = []
bytes_of (n ∷ ns) = two_bytes n ++ bytes_of ns

-- A row's codes, as many as its relation has places.
abbrev pub codes_of : Row → List ℕ
codes_of r = take (places r.relation) (r.a ∷ r.b ∷ r.c ∷ [])

-- The record of a row.
abbrev pub written : Row → List ℕ
written r = mark r.relation ++ bytes_of (codes_of r)

-- The rows that have a record: of a fact relation, with codes of 16 bits and 0 in unused places.
abbrev pub Fact : Row → Type 0
Fact r = (r.relation < 18) × (admissible 65536 r ≡ true)

-- The file of some rows, and the records of that file with the offset of each.
abbrev pub file : List Row → List ℕ
file [] = []
file (r ∷ rs) = written r ++ file rs

abbrev pub records : ℕ → List Row → List Record
records offset [] = []
records offset (r ∷ rs) = record { offset = offset; row = r } ∷ records (offset + length (written r)) rs

-- Bytes begin with the mark of a relation.
abbrev pub Marked : ℕ → List ℕ → Type 0
Marked relation bytes = (relation < 18) × (take 2 bytes ≡ mark relation)

-- Why some bytes, which are not none, begin with no record: a lone byte is not a mark; no relation has the mark; the codes of
-- the relation that has it want more bytes.
abbrev pub Refused : List ℕ → ReadFault → Type 0
Refused bytes (LoneByte at) = length bytes ≡ 1
Refused bytes (UnknownMark at) = (2 ≤ length bytes) × ((relation : ℕ) → Marked relation bytes → ⊥)
Refused bytes (Cut at) = (relation : ℕ) × (Marked relation bytes × (length bytes < 2 + 2 * places relation))

-- The number of a refusal, and the offset that it carries.
abbrev pub fault_number : ReadFault → ℕ
fault_number (LoneByte at) = 9
fault_number (UnknownMark at) = 8
fault_number (Cut at) = 9

abbrev pub fault_offset : ReadFault → ℕ
fault_offset (LoneByte at) = at
fault_offset (UnknownMark at) = at
fault_offset (Cut at) = at

-- What a reader answers that stands at an offset before some bytes, and where it stands then, before which bytes.
abbrev pub Answered : ℕ → List ℕ → Result (Option Record) ReadFault → ℕ → List ℕ → Type 0
Answered at bytes (Ok o) at' bytes' =
    elim o [
      -- the end is where no byte is left
      | None ↦ (bytes ≡ []) × (at' ≡ at) × (bytes' ≡ bytes)
      -- a record stands there, and the reader moves past it
      | Some x ↦ (x.offset ≡ at) × Fact x.row × (bytes ≡ written x.row ++ bytes') × (at' ≡ at + length (written x.row))
    ]
-- after a refusal the reader stays
Answered at bytes (Err fault) at' bytes' =
    (fault_offset fault ≡ at) × Refused bytes fault × (at' ≡ at) × (bytes' ≡ bytes)

-- Two answers are one, and leave the reader at one place.
abbrev pub Same : Result (Option Record) ReadFault → ℕ → List ℕ → Result (Option Record) ReadFault → ℕ → List ℕ → Type 0
Same r at bytes s at' bytes' = (r ≡ s) × (at ≡ at') × (bytes ≡ bytes')

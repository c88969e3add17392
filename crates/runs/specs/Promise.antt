-- The promise over whole runs.
use Rattle.std.specs.Prelude.{◌≡◌, ℕ, ◌↔◌, List, [], ◌∷◌}
use Rattle.rows.specs.declared.row.Row.{Row}
use Rattle.rows.specs.Adding.{joined}
use Rattle.rows.specs.Words.{written}
use Rattle.rows.specs.Relations.{errors, potential_errors, subset_errors, potential_subset_errors}
use Rattle.datalog.specs.Contents.{Among}
use Rattle.output.specs.Completion.{Completed, Missing}
use Rattle.theorems.specs.Compared.{EachOwnsPlaceholder}
use Rattle.theorems.specs.Numbers.{Number}
use Rattle.analysis.specs.Calls.{read_answer}
use Rattle.runs.specs.declared.script.Event.{Event}
use Rattle.runs.specs.declared.script.Event.TheVariants.{NotMade, Began, Put, Started, Advanced, Settled, Read}
use Rattle.runs.specs.Histories.{accepted, additions, begins, reached}

-- Each read answered the least row held that is in the relation asked and not below the row asked, or none.
abbrev pub ReadRight : List Row → Event → Type 0
ReadRight table NotMade = Unit {0}
ReadRight table (Began a) = Unit {0}
ReadRight table (Put r a) = Unit {0}
ReadRight table Started = Unit {0}
ReadRight table (Advanced b a) = Unit {0}
ReadRight table (Settled a) = Unit {0}
ReadRight table (Read q a) = a ≡ read_answer table q

abbrev pub ReadsRight : List Row → List Event → Type 0
ReadsRight table [] = Unit {0}
ReadsRight table (e ∷ es) = ReadRight table e × ReadsRight table es

-- If exactly one begin was accepted and Done was reached, then the table holds the accepted facts and their derived rows,
-- no others; the additions reported are the number of derived rows; each read is right; every naive loan error is a
-- location-insensitive one; and where every universal region has a placeholder loan that no other origin has, every naive
-- subset error, its point dropped, is a location-insensitive one.
abbrev pub Promised : List Event → List Row → Type 0
Promised es table = begins es ≡ 1 → reached es →
    (((r : Row) → (Among table r ↔ Completed (accepted es) r))
    × Number (Missing (accepted es)) (additions es)
    × ReadsRight table es
    × ((loan point : ℕ) → Completed (accepted es) (errors loan point) → Completed (accepted es) (potential_errors loan point))
    × (EachOwnsPlaceholder (accepted es)
    → (origin1 origin2 point : ℕ) → Completed (accepted es) (subset_errors origin1 origin2 point) → Completed (accepted es) (potential_subset_errors origin1 origin2)))

-- A run on a list over words: the words then begin with the rows of the run, in the order of their adding, and keep what they
-- had after those; and of these rows the promise holds.
abbrev pub PromisedOnWords : List Event → List ℕ → List ℕ → Type 0
PromisedOnWords es before after = (rows : List Row) × (after ≡ written rows before) × Promised es (joined [] rows)

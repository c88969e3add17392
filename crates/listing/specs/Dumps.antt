-- What is printed of a facts file.
use Rattle.std.specs.Prelude.{◌≡◌, ℕ, ◌⊎◌, List, ◌++◌, codes}
use Rattle.rows.specs.declared.row.Row.{Row}
use Rattle.listing.specs.declared.fault.ListingFault.{ListingFault}
use Rattle.listing.specs.Listing.{Lists}
use Rattle.listing.specs.Text.{lines_of, fault_words}

-- The derived rows of the file's facts, a line to each, or the one line of a refusal.
abbrev pub Dumped : List ℕ → List ℕ → Type 0
Dumped bytes text =
    ((found : List Row) × (Lists bytes found × (text ≡ lines_of found)))
    ⊎ ((fault : ListingFault) × (text ≡ fault_words fault ++ codes "\n"))

-- of bytes that are not known: those that a reader gave
abbrev pub DumpedOfSome : List ℕ → Type 0
DumpedOfSome text = (bytes : List ℕ) × Dumped bytes text

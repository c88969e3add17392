-- The text of a listing.
use Rattle.std.specs.Prelude.{ℕ, List, [], ◌∷◌, ◌++◌, codes, decimal}
use Rattle.rows.specs.declared.row.Row.{Row}
use Rattle.rows.specs.Openings.{open_number}
use Rattle.rows.specs.Tables.{number}
use Rattle.facts.specs.Format.{codes_of, fault_number, fault_offset}
use Rattle.analysis.specs.declared.fault.RunFault.{RunFault}
use Rattle.analysis.specs.declared.fault.RunFault.TheVariants.{NotEmpty, NotFact, RowsMissing, Refused, Stopped}
use Rattle.analysis.specs.Faults as run
use Rattle.listing.specs.declared.fault.ListingFault.{ListingFault}
use Rattle.listing.specs.declared.fault.ListingFault.TheVariants.{Input, Opening, Reading, Putting, Running, NoMemory}

-- numbers in decimal, a blank before each, to the end of the line
abbrev pub blanks : List ℕ → List ℕ
blanks [] = codes "\n"
blanks (n ∷ ns) = codes " " ++ (decimal n ++ blanks ns)

-- the line of a row: its relation and its codes, as many as the relation has places
abbrev pub line_of : Row → List ℕ
line_of r = decimal r.relation ++ blanks (codes_of r)

abbrev pub lines_of : List Row → List ℕ
lines_of [] = []
lines_of (r ∷ rs) = line_of r ++ lines_of rs

-- the words of a run's refusal: its number, and the relation that was being derived
abbrev pub run_words : RunFault → List ℕ
run_words NotEmpty = codes "refused " ++ decimal 5
run_words NotFact = codes "refused " ++ decimal 6
run_words RowsMissing = codes "refused " ++ decimal 7
run_words (Refused refusal) = codes "refused " ++ decimal (number refusal.fault)
run_words (Stopped stop) = codes "refused " ++ (decimal (number stop.fault) ++ (codes " in " ++ decimal stop.relation))

-- the words of a fault: its number, and where the fact's record stands or which relation was being derived
abbrev pub fault_words : ListingFault → List ℕ
fault_words Input = codes "refused " ++ decimal 12
fault_words (Opening fault) = codes "refused " ++ decimal (open_number fault)
fault_words (Reading fault) = codes "refused " ++ (decimal (fault_number fault) ++ (codes " at " ++ decimal (fault_offset fault)))
fault_words (Putting offset fault) = codes "refused " ++ (decimal (run.number fault) ++ (codes " at " ++ decimal offset))
fault_words (Running fault) = run_words fault
fault_words NoMemory = codes "no memory"

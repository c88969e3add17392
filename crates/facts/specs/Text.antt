-- The words of a refusal to read.
use Rattle.std.specs.Prelude.{ℕ, List, ◌++◌, codes, decimal}
use Rattle.facts.specs.declared.record.ReadFault.{ReadFault}
use Rattle.facts.specs.declared.whole.WholeFault.{WholeFault}
use Rattle.facts.specs.declared.whole.WholeFault.TheVariants.{Unread, NoMemory}
use Rattle.facts.specs.Format.{fault_number, fault_offset}

-- its number, and where the mark stands
abbrev pub read_words : ReadFault → List ℕ
read_words fault = codes "refused " ++ (decimal (fault_number fault) ++ (codes " at " ++ decimal (fault_offset fault)))

abbrev pub whole_words : WholeFault → List ℕ
whole_words (Unread fault) = read_words fault
whole_words NoMemory = codes "no memory"

-- The numbers of refusals: those of the lower faults, and 12 where the input cannot be taken at all.
use Rattle.std.specs.Prelude.{ℕ, Some, None, Option}
use Rattle.rows.specs.Openings.{open_number}
use Rattle.facts.specs.Format.{fault_number}
use Rattle.analysis.specs.Faults as run
use Rattle.listing.specs.declared.fault.ListingFault.{ListingFault}
use Rattle.listing.specs.declared.fault.ListingFault.TheVariants.{Input, Opening, Reading, Putting, Running, NoMemory}

abbrev pub listing_number : ListingFault → Option ℕ
listing_number Input = Some 12
listing_number (Opening fault) = Some (open_number fault)
listing_number (Reading fault) = Some (fault_number fault)
listing_number (Putting offset fault) = Some (run.number fault)
listing_number (Running fault) = Some (run.number fault)
listing_number NoMemory = None

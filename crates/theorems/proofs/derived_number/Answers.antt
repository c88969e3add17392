use Rattle.theorems.proofs.Defined.{one_derived}
use Rattle.theorems.proofs.Added.{additions_number}
use Rattle.theorems.proofs.Exists.{derived_numbered}
use Rattle.theorems.proofs.derived_number.Goals as goal

pub returns : goal.returns
returns c = record { some = derived_numbered; one = one_derived; added = additions_number }

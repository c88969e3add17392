use Rattle.theorems.proofs.Defined.{least_has, closed_least, least_below, least_unique, least_is_least}
use Rattle.theorems.proofs.Exists.{least_listed}
use Rattle.theorems.proofs.least_sets.Goals as goal

pub returns : goal.returns
returns c = record { has = least_has; closed = closed_least; below = least_below; unique = least_unique; least = least_is_least; listed = least_listed }

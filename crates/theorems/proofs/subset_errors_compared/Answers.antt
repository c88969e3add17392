use Rattle.theorems.proofs.Compares.{subset_errors_compared}
use Rattle.theorems.proofs.subset_errors_compared.Goals as goal

pub returns : goal.returns
returns c = subset_errors_compared

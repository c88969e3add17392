use Rattle.theorems.proofs.Strikes.{subset_struck}
use Rattle.theorems.proofs.subset_struck.Goals as goal

pub returns : goal.returns
returns c = subset_struck

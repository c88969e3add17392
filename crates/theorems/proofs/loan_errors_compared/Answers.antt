use Rattle.theorems.proofs.Compares.{loan_errors_compared}
use Rattle.theorems.proofs.loan_errors_compared.Goals as goal

pub returns : goal.returns
returns c = loan_errors_compared

use Rattle.std.proofs.Common.{sym}
use Rattle.facts.specs.Atoms.{number_made}
use Rattle.facts.proofs.number.Number.new.Goals as goal

pub returns-then-value-lt-LIMIT : goal.returns-then-value-lt-LIMIT
returns-then-value-lt-LIMIT c = sym (number_made _)

-- The numbers of the refusals of a run.
use Rattle.std.specs.Prelude.{ℕ}
use Rattle.rows.specs.Tables as tables
use Rattle.analysis.specs.declared.fault.RunFault.{RunFault}
use Rattle.analysis.specs.declared.fault.RunFault.TheVariants.{NotEmpty, NotFact, RowsMissing, Refused, Stopped}

abbrev pub number : RunFault → ℕ
number NotEmpty = 5
number NotFact = 6
number RowsMissing = 7
number (Refused refusal) = tables.number refusal.fault
number (Stopped stop) = tables.number stop.fault

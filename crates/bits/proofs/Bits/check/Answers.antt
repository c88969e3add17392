use Rattle.bit_places.proofs.Enumerates.{enumerated}
use Rattle.bits.proofs.Bits.check.Goals as goal

pub returns-in_err-over-clause-layout : goal.returns-in_err-over-clause-layout
returns-in_err-over-clause-layout c = enumerated c.args.width

pub returns-clause-layout : goal.returns-clause-layout
returns-clause-layout c = enumerated c.args.width

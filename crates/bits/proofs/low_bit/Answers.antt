use Rattle.std.proofs.Common.{arith}
use Rattle.bit_places.proofs.Seeks.{low_none, low_some, low_in}
use Rattle.bits.proofs.low_bit.Goals as goal

pub returns-then-rest-eq0-clause-low : goal.returns-then-rest-eq0-clause-low
returns-then-rest-eq0-clause-low c = low_none c.args.word c.args.k c.requires c.if-rest-eq0.true

pub returns-else-rest-eq0-clause-low : goal.returns-else-rest-eq0-clause-low
returns-else-rest-eq0-clause-low c = low_some c.args.word c.args.k c.requires (omega arith) (omega (arith, c.if-rest-eq0.false))

pub returns-else-rest-eq0-clause-within : goal.returns-else-rest-eq0-clause-within
returns-else-rest-eq0-clause-within c = low_in c.args.word c.args.k c.requires (omega arith) (omega (arith, c.if-rest-eq0.false))

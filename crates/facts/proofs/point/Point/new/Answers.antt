use Rattle.std.proofs.Common.{sym, refl}
use Rattle.facts.specs.Atoms.{point_made}
use Rattle.facts.proofs.point.Point.new.Goals as goal

pub returns-then-half-le1 : goal.returns-then-half-le1
returns-then-half-le1 c = sym (point_made c.args.block c.args.statement c.args.half _ refl refl refl)

use Rattle.std.proofs.Common.{◌≡◌, ◌≤◌}
use Rattle.bit_places.specs.Places.{base}
use Rattle.bits.proofs.places.Layout.relation_at.Given as goal

abbrev pub invariant-loop-k : goal.invariant-loop-k
invariant-loop-k l = (l.at ≡ base l.self.width l.k) × (l.at ≤ l.i)

use Rattle.std.proofs.Common.{◌≡◌, ℕ, ◌-◌, ◌<◌, ◌≤◌, false}
use Rattle.bit_places.specs.Bit.{bit}
use Rattle.bits.proofs.Bits.seek.Given as goal

abbrev pub invariant-loop-m : goal.invariant-loop-m
invariant-loop-m l = (l.initial.m ≤ l.m) × ((k : ℕ) → l.initial.m ≤ k → k < l.m → bit l.self.words.now k ≡ false)

abbrev pub decreases-loop-m : goal.decreases-loop-m
decreases-loop-m l = l.self.places - l.m

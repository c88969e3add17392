use Rattle.std.proofs.Common.{◌≡◌, ℕ, ◌<◌, ◌≤◌, min, length, get_or}
use Rattle.table.proofs.maxima.Maxima.lesser.Given as goal

abbrev pub invariant-loop-i : goal.invariant-loop-i
invariant-loop-i l =
    (length l.out ≡ 40)
    × ((k : ℕ) → k < l.i → get_or l.out k 0 ≡ min (get_or l.self.most k 0) (get_or l.others k 0))
    × ((k : ℕ) → l.i ≤ k → get_or l.out k 0 ≡ get_or l.others k 0)

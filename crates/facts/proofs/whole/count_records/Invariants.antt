use Rattle.std.proofs.Common.{length}
use Rattle.facts.proofs.Files.{Counted}
use Rattle.facts.proofs.whole.count_records.Given as goal

abbrev pub invariant-loop-count : goal.invariant-loop-count
invariant-loop-count l = Counted l.bytes l.count l.reader.offset l.reader.left.now

abbrev pub decreases-loop-count : goal.decreases-loop-count
decreases-loop-count l = length l.reader.left.now

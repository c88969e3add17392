use Rattle.std.proofs.Common.{length, vec_items}
use Rattle.facts.proofs.Files.{Before}
use Rattle.facts.proofs.whole.read_all.Given as goal

abbrev pub invariant-loop-found : goal.invariant-loop-found
invariant-loop-found l = Before l.bytes (vec_items l.found) l.reader.offset l.reader.left.now

abbrev pub decreases-loop-found : goal.decreases-loop-found
decreases-loop-found l = length l.reader.left.now

use Rattle.std.proofs.Common.{length}
use Rattle.listing.proofs.walk.tell_facts.Given as goal

abbrev pub decreases-loop-loaded : goal.decreases-loop-loaded
decreases-loop-loaded g l = length l.reader.left.now

use Rattle.std.proofs.Common.{length}
use Rattle.listing.proofs.Loads.{Reached}
use Rattle.listing.proofs.load.load.Given as goal

abbrev pub invariant-loop-loaded : goal.invariant-loop-loaded
invariant-loop-loaded g l =
    Reached g.T.Table.means l.bytes l.initial.t l.added l.reader.offset l.reader.left.now l.t

abbrev pub decreases-loop-loaded : goal.decreases-loop-loaded
decreases-loop-loaded g l = length l.reader.left.now

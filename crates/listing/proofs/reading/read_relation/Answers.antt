use Rattle.std.proofs.Common.{sym}
use Rattle.listing.proofs.InOrder.{reads_next}
use Rattle.listing.proofs.reading.read_relation.Goals as goal

pub loop-r-preserved : goal.loop-r-preserved
loop-r-preserved g c =
    reads_next (g.T.Table.means.bounds _) _ _ _ _ _ c.loop-r.invariant _ _ _ (g.met.T.Table.lawful _) (sym c.in-Some.ensures) c.in_ok-push.ensures.items c.after-from.ensures

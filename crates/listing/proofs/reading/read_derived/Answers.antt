use Rattle.listing.proofs.InOrder.{all_read}
use Rattle.listing.proofs.reading.read_derived.Goals as goal

pub returns : goal.returns
returns g c =
    all_read (g.T.Table.means.bounds _) _ _ _ (g.met.T.Table.lawful _) c.loop-relation.invariant c.loop-relation-test.false

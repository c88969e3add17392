use Rattle.listing.proofs.Derives.{not_spent}
use Rattle.listing.proofs.derive.derive.Goals as goal

pub unreachable-requires : goal.unreachable-requires
unreachable-requires g c =
    not_spent g.T.Table.means _ _ _ _ (g.met.T.Table.lawful _) c.in_ok-n.ensures.kept c.requires c.in_ok-n.ensures.does c.in-Spent.is

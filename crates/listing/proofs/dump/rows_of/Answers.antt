use Rattle.listing.proofs.Derives.{lists, began}
use Rattle.listing.proofs.dump.rows_of.Goals as goal

pub returns-clause-lists : goal.returns-clause-lists
returns-clause-lists g c =
    lists g.T.Table.means _ c.args.t.now c.derive.new.t _ (g.met.T.Table.lawful _)
    (c.load.new.t, (_, (_, (c.in_ok-_added.ensures, c.in_ok-_derived.ensures, c.in_ok-read_derived.ensures, began _ _ c.in_ok-filling.ensures))))

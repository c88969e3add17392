use Rattle.table.proofs.TakenOff.{taken_off}
use Rattle.table.proofs.adding.add_under.Goals as goal

pub returns : goal.returns
returns g c =
    taken_off {S = g.row.T.Denot} g.T.Table.means g.met.T.Table.steady (λ m. m) c.args.below c.args.own
    c.new-quota.result c.args.batch.now c.add_each-added.new.t c.into_below.result
    c.new-quota.ensures.below c.new-quota.ensures.own c.into_below.ensures c.add_each-added.ensures.filled

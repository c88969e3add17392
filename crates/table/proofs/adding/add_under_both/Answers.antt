use Rattle.rows.specs.Quotas.{capped}
use Rattle.table.proofs.TakenOff.{taken_off}
use Rattle.table.proofs.adding.add_under_both.Goals as goal

pub returns : goal.returns
returns g c =
    taken_off {S = g.row.T.Denot} g.T.Table.means g.met.T.Table.steady (capped c.args.upper.most) c.args.below c.args.lower
    c.new-quota.result c.args.batch.now c.add_under-quota.result c.into_below.result
    c.new-quota.ensures.below c.new-quota.ensures.own c.into_below.ensures c.add_under-quota.ensures

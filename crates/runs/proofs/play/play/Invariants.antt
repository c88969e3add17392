use Rattle.std.proofs.Common.{◌≡◌, take, vec_items}
use Rattle.runs.specs.Traces.{Trace, orders, phases}
use Rattle.runs.proofs.play.play.Given as goal

abbrev pub invariant-loop-step : goal.invariant-loop-step
invariant-loop-step g l =
    (g.T.Table.means.bounds l.t ≡ g.T.Table.means.bounds l.initial.t)
    × Trace g.T.Table.means
    (orders {F = g.row.F.Denot} g.F.Origin.Atom.number g.F.Loan.Atom.number g.F.Point.Atom.number g.F.Variable.Atom.number g.F.Path.Atom.number (take l.step-index l.script))
    (vec_items l.log) (phases (vec_items l.states)) l.initial.t l.t

use Rattle.std.proofs.Common.{refl, ◌∙◌}
use Rattle.runs.proofs.Turns.{trace_opened, trace_more, trace_whole}
use Rattle.runs.proofs.Wholes.{promised}
use Rattle.runs.proofs.Tellings.{told}
use Rattle.runs.proofs.play.play.Goals as goal

pub loop-step-init : goal.loop-step-init
loop-step-init g c = (refl, trace_opened g.T.Table.means _ _ c.args.t.now c.new-log.ensures.items c.new-states.ensures.items)

pub loop-step-preserved : goal.loop-step-preserved
loop-step-preserved g c =
    let i = c.loop-step.invariant in (
      c.turn.ensures.kept ∙ i.0,
      trace_more {F = g.row.F.Denot} g.F.Origin.Atom.number g.F.Loan.Atom.number g.F.Point.Atom.number g.F.Variable.Atom.number g.F.Path.Atom.number g.T.Table.means
          c.args.script.now c.loop-step.step-index c.step-item.result _ _ _ _ _ _ _ c.in_ok-event.event c.loop-step-test.true c.step-item.is c.in_ok-push.ensures.items i.1 c.in_ok-event.ensures.does,
    )

pub returns : goal.returns
returns g c =
    let rows = g.T.Table.means.rows in
    let bounds = g.T.Table.means.bounds in
    let grew = g.T.Table.means.grew in
    let i = c.loop-step.invariant in
    let trace = trace_whole {F = g.row.F.Denot} g.F.Origin.Atom.number g.F.Loan.Atom.number g.F.Point.Atom.number g.F.Variable.Atom.number g.F.Path.Atom.number g.T.Table.means
    c.args.script.now c.loop-step.step-index _ _ _ _ c.loop-step-test.false i.1 in
    record {
      played = (_, trace);
      promised = λ empty. promised g.T.Table.means g.met.T.Table.lawful trace empty;
      atoms = λ empty. told g.row.F.Denot g.F.Origin.Atom.number g.F.Loan.Atom.number g.F.Point.Atom.number g.F.Variable.Atom.number g.F.Path.Atom.number
          g.F.Origin.Atom.atom g.F.Loan.Atom.atom g.F.Point.Atom.atom g.F.Variable.Atom.atom g.F.Path.Atom.atom
          g.met.F.Origin.Atom.back g.met.F.Loan.Atom.back g.met.F.Point.Atom.back g.met.F.Variable.Atom.back g.met.F.Path.Atom.back
          g.T.Table.means g.met.T.Table.lawful c.args.script.now trace empty;
      kept = i.0;
    }

use Rattle.std.proofs.Common.{◌≡◌, Ok, arith}
use Rattle.std.proofs.lemmas.Grind.{common_steps}
use Rattle.rows.specs.declared.answer.Outcome.TheVariants.{Added}
use Rattle.analysis.proofs.Puts.{put_added}
use Rattle.analysis.proofs.state.Filling.put.Goals as goal

pub returns-then-eq : goal.returns-then-eq
returns-then-eq g c =
    let e = c.add.ensures in
    let o = c.in_ok-outcome.outcome in
    let added : o ≡ Added = grind (arith, common_steps) in
    let is : c.add.result ≡ Ok Added = grind (arith, common_steps) in
    put_added g.T.Table.means c.args.t.now c.add.new.self _ _ c.args.r c.if-r-ge-FIRST_DERIVED.false
    e.kept c.add.result o is added e.answer e.after e.changed c.saturating_add-self.ensures

use Rattle.std.proofs.Common.{◌≡◌, ◌+◌, ◌≤◌, cond, length, get_or, take, sym, refl, ap, ◌∙◌, subst, add-zero, arith, length-take, rules}
use Rattle.std.proofs.lemmas.List.{take_more}
use Rattle.rows.specs.Rows.{start}
use Rattle.rows.specs.Adding.{Filled, taken, went_in}
use Rattle.rows.proofs.Addings.{filled_none, filled_more, taken_counts, taken_few}
use Rattle.table.proofs.adding.add_each.Goals as goal
use Rattle.table.proofs.adding.add_each.Goals.{then-went_in, else-went_in}

pub loop-r-init : goal.loop-r-init
unfolding taken
loop-r-init g c = (filled_none g.T.Table.means c.args.t.now, refl)

pub overflow_add-added : goal.overflow_add-added
overflow_add-added g c =
    let xs = c.args.batch.now in
    let f = taken_few (g.T.Table.means.bounds c.args.t.now) (g.T.Table.means.rows c.args.t.now) (take c.loop-r.r-index xs) in
    let l = length-take c.loop-r.r-index xs in
    let n : c.loop-r.added ≤ c.loop-r.r-index = omega (arith, c.loop-r.invariant.1) in
    search rules

pub loop-r-preserved : goal.loop-r-preserved
loop-r-preserved g c =
    let xs = c.args.batch.now in
    let i = c.loop-r.r-index in
    let s = c.args.t.now in
    let r = get_or xs i (start 0) in
    let e = sym (take_more xs i (start 0) c.loop-r-test.true) in
    let a = c.add.ensures in
    let f = c.loop-r.invariant.0 in
    let m = filled_more g.T.Table.means s (take i xs) c.loop-r.t r c.add.new.self c.add.result f a.answer a.after a.kept a.changed in
    let n = taken_counts g.T.Table.means s (take i xs) c.loop-r.t r c.add.result f a.answer in
    let k : c.if-went_in.added ≡ c.loop-r.added + cond (went_in c.add.result) 1 0 =
    elim c.if-went_in.branch [
      | then-went_in w ↦ w.added-is ∙ ap (λ b. c.loop-r.added + cond b 1 0) w.if-went_in.ensures
      | else-went_in w ↦ w.added-is ∙ sym (add-zero c.loop-r.added) ∙ ap (λ b. c.loop-r.added + cond b 1 0) w.if-went_in.ensures
    ] in (
      subst (λ rs. Filled g.T.Table.means (g.T.Table.means.bounds s) s rs c.add.new.self) e m,
      k ∙ ap (λ x. x + cond (went_in c.add.result) 1 0) c.loop-r.invariant.1 ∙ sym n ∙ ap (λ rs. length (taken (g.T.Table.means.bounds s) (g.T.Table.means.rows s) rs)) e,
    )

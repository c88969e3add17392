use Rattle.std.proofs.Common.{◌≡◌, sym, subst, MutBor}
use Rattle.rows.specs.declared.row.Row.{Row}
use Rattle.rows.specs.Adding.{Filled, taken}
use Rattle.rows.specs.Quotas.{capped}
use Rattle.rows.specs.Tables.{standing}
use Rattle.rows.proofs.Addings.{filled_under, grown_keeps}
use Rattle.table.proofs.adding.add_under_lent.Goals as goal

pub returns : goal.returns
returns g c =
    let S = g.row.T.Denot in
    let Q : Type 0 = MutBor S in
    let M = g.T.Table.means in
    let grown : Q → Row → Q → Type 0 = λ q r p. M.grew q.now r p.now × (p.ghost_name ≡ q.ghost_name) in
    let rs = c.args.batch.now in
    let m = capped c.args.own.most (M.bounds c.args.below.now) in
    let q : Q = record { ref_ptr = c.args.below.ref_ptr; ghost_name = c.add_under-arg-1.given; now = c.args.below.now } in
    let p : Q = c.add_under-lent.result in
    let f : Filled (standing (λ x. x.now) M (λ x. M.bounds x.now) grown) m q rs p = c.add_under-lent.ensures in
    let u = filled_under {S = S} {Q = Q} M (λ x. M.bounds x.now) grown (λ x. x.now) (λ x r y h. h.0) g.met.T.Table.steady m q rs p f in
    let k = grown_keeps {S = Q} grown (λ x. x.ghost_name) (λ x r y h. h.1) q (taken m (M.rows q.now) rs) p f.grown in
    subst (λ t. Filled M m c.args.below.now rs t) (sym (c.below-1.given.1 (sym k))) u

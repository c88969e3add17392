use Rattle.std.proofs.Common.{◌≡◌, true, false, length, sym, refl, ap, ◌∙◌, arith}
use Rattle.rows.specs.Rows.{admissible}
use Rattle.rows.specs.Tables.{rows_after}
use Rattle.rows.specs.Quotas.{capped}
use Rattle.table.specs.declared.quota.Quota.{Quota}
use Rattle.rows.proofs.Adds as adds
use Rattle.rows.proofs.Changeds.{changed_over}
use Rattle.table.proofs.quota.QuotaTable.add.Goals as goal

pub returns-then-not-admissible : goal.returns-then-not-admissible
unfolding rows_after
returns-then-not-admissible g c =
    let q = c.args.self.now in
    let p : admissible (g.T.Table.means.bounds q.below).width c.args.r ≡ false = ap (λ m. admissible m.width c.args.r) (sym c.limits-m.ensures) ∙ sym c.if-not-admissible.ensures in
    record { answer = adds.refused (capped q.own.most (g.T.Table.means.bounds q.below)) (g.T.Table.means.rows q.below) c.args.r p; after = refl; kept = refl; changed = refl }

pub returns-then-holds : goal.returns-then-holds
unfolding rows_after
returns-then-holds g c =
    let q = c.args.self.now in
    let p : admissible (g.T.Table.means.bounds q.below).width c.args.r ≡ true = ap (λ m. admissible m.width c.args.r) (sym c.limits-m.ensures) ∙ sym c.if-not-admissible.ensures in
    record { answer = adds.held (capped q.own.most (g.T.Table.means.bounds q.below)) (g.T.Table.means.rows q.below) c.args.r p (sym c.if-holds.ensures); after = refl; kept = refl; changed = refl }

pub returns-then-count_of-of : goal.returns-then-count_of-of
unfolding rows_after
returns-then-count_of-of g c =
    let q = c.args.self.now in
    let law = g.met.T.Table.lawful q.below in
    let m = g.T.Table.means.bounds q.below in
    let xs = g.T.Table.means.rows q.below in
    let e : length q.own.most ≡ length m.each = q.own.forty ∙ sym law.forty in
    let p : admissible m.width c.args.r ≡ true = ap (λ m. admissible m.width c.args.r) (sym c.limits-m.ensures) ∙ sym c.if-not-admissible.ensures in
    record {
      answer = adds.filled (capped q.own.most m) xs c.args.r p (sym c.if-holds.ensures) (adds.capped_full m xs c.args.r q.own.most e (omega (arith, c.count_of.ensures, c.of.ensures)));
      after = refl;
      kept = refl;
      changed = refl;
    }

pub returns : goal.returns
returns g c =
    let q = c.args.self.now in
    let law = g.met.T.Table.lawful q.below in
    let m = g.T.Table.means.bounds q.below in
    let xs = g.T.Table.means.rows q.below in
    let e : length q.own.most ≡ length m.each = q.own.forty ∙ sym law.forty in
    let s = sym (adds.capped_answer m xs c.args.r q.own.most e (omega (arith, c.count_of.ensures, c.of.ensures))) in
    record {
      answer = c.add.ensures.answer ∙ s;
      after = c.add.ensures.after;
      kept = ap (capped q.own.most) c.add.ensures.kept;
      changed = changed_over {S = g.row.T.Denot} {Q = Quota g.row.T.Denot} g.T.Table.means.grew (λ p r t. g.T.Table.means.grew p.below r t.below × (t.own ≡ p.own)) (λ b. record { below = b; own = q.own }) q.below c.add.new.self c.args.r (λ h. (h, refl)) c.add.result c.add.ensures.changed;
    }

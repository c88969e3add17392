use Rattle.std.proofs.Common.{◌*◌, ◌≤◌, length, sym, ◌∙◌, arith}
use Rattle.rows.specs.Adding.{taken}
use Rattle.rows.specs.Quotas.{capped}
use Rattle.rows.specs.Words.{gather, uniform, written}
use Rattle.rows.proofs.Addings.{grown_keeps}
use Rattle.rows.proofs.Spells.{grown_written}
use Rattle.list.specs.declared.List.{List}
use Rattle.list.specs.contracts.ListTable.TheImpl.{ghosts}
use Rattle.list.proofs.fill.fill_words.Goals as goal

pub returns : goal.returns
unfolding gather
returns c =
    let s : List = c.make-list.result in
    let t : List = c.add_under_lent.new.below in
    let m = c.make-list.ensures in
    let own = c.args.own.most in
    let rs = c.args.batch.now in
    let ys = taken (capped own (uniform s.width s.most)) (gather s.words.now s.used) rs in
    let g = c.add_under_lent.ensures.grown in
    let room : 4 * t.used ≤ length t.words.now = omega (arith, t.within, t.room) in
    let w = grown_written {S = List} ghosts.means.grew (λ l. l.words.now) (λ l. l.used) (λ l r k h. (h.0, h.1)) s ys t g m.used room in
    let k = grown_keeps {S = List} ghosts.means.grew (λ l. l.words.ghost_name) (λ l r k h. h.4) s ys t g in
    c.words-1.given.1.1 (sym (k ∙ m.place))
    ∙ w
    ∙ (λ i. written (taken (capped own (uniform (m.width i) (m.most i))) (gather s.words.now (m.used i)) rs) (m.words i))

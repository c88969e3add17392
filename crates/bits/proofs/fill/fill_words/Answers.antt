use Rattle.std.proofs.Common.{nat_lt, sym, ◌∙◌}
use Rattle.rows.specs.Adding.{taken}
use Rattle.rows.specs.Quotas.{capped}
use Rattle.rows.proofs.Addings.{grown_keeps}
use Rattle.bit_places.specs.Marked.{marked, with_bits}
use Rattle.bit_places.specs.Opened.{bit_limits}
use Rattle.bit_places.proofs.Raises.{grown_raised}
use Rattle.bits.specs.declared.Bits.{Bits}
use Rattle.bits.specs.contracts.BitsTable.TheImpl.{ghosts}
use Rattle.bits.proofs.fill.fill_words.Goals as goal

pub returns : goal.returns
returns c =
    let s : Bits = c.make-bits.result in
    let t : Bits = c.add_under_lent.new.below in
    let m = c.make-bits.ensures in
    let own = c.args.own.most in
    let rs = c.args.batch.now in
    let ys = taken (capped own (bit_limits (nat_lt 0 s.places) s.layout.width)) (marked s.layout.width s.words.now 0 s.places) rs in
    let g = c.add_under_lent.ensures.grown in
    let w = grown_raised {S = Bits} ghosts.means.grew (λ b. b.words.now) (λ b. b.layout.width) (λ b r k h. (h.0, h.1)) s ys t g in
    let k = grown_keeps {S = Bits} ghosts.means.grew (λ b. b.words.ghost_name) (λ b r k h. h.3) s ys t g in
    c.words-1.given.1.1 (sym (k ∙ m.place))
    ∙ w
    ∙ (λ i. with_bits (m.width i) (taken (capped own (bit_limits (m.live i) (m.width i))) (m.rows i) rs) (m.words i))

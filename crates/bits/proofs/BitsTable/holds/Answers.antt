use Rattle.std.proofs.Common.{sym, ap, ◌∙◌, arith}
use Rattle.std.proofs.lemmas.Bool.{le-ltb}
use Rattle.bit_places.specs.Bit.{bit}
use Rattle.bit_places.proofs.Lawfuls.{within}
use Rattle.bit_places.proofs.Tabled.{has_shut, has_not_fit, has_open, live_open, live_shut}
use Rattle.bits.proofs.BitsTable.holds.Goals as goal

pub returns-then-not-admits : goal.returns-then-not-admits
returns-then-not-admits c =
    let s = c.args.self.now in
    let w = s.layout.width in
    sym (has_not_fit w s.words.now s.places _ c.args.r s.sized (within w _ s.places s.sized) (sym c.if-not-admits.ensures))

pub returns-then-i-self : goal.returns-then-i-self
returns-then-i-self c =
    let s = c.args.self.now in
    let w = s.layout.width in
    c.read.ensures ∙ ap (bit s.words.now) c.place-i.ensures
    ∙ sym (has_open w s.words.now s.places _ c.args.r s.sized (live_open c.place-i.result s.places c.if-i-self.true) (sym c.if-not-admits.ensures))

pub returns-else-i-self : goal.returns-else-i-self
returns-else-i-self c =
    let s = c.args.self.now in
    let w = s.layout.width in
    let a = sym c.if-not-admits.ensures in
    le-ltb c.place-i.result s.places c.if-i-self.false
    ∙ sym (has_shut w s.words.now s.places _ c.args.r s.sized (live_shut w s.places c.args.r s.sized a (omega (arith, c.place-i.ensures))))

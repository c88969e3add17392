use Rattle.std.proofs.Common.{◌≡◌, false, sym, refl, ap, ◌∙◌, arith}
use Rattle.rows.specs.Tables.{rows_after}
use Rattle.bit_places.specs.Places.{place}
use Rattle.bit_places.specs.Bit.{bit, raised}
use Rattle.bit_places.specs.Marked.{marked}
use Rattle.bit_places.proofs.Tabled.{answer_unfit, answer_shut, answer_held, answer_added, after_added, live_open, live_shut}
use Rattle.bit_places.proofs.Openings.{limits_same}
use Rattle.bits.proofs.BitsTable.add.Goals as goal

pub returns-then-not-admits : goal.returns-then-not-admits
unfolding rows_after
returns-then-not-admits c =
    let s = c.args.self.now in
    record { answer = answer_unfit s.layout.width s.words.now s.places _ c.args.r s.sized (sym c.if-not-admits.ensures); after = refl; kept = refl; changed = refl }

pub returns-then-i-self : goal.returns-then-i-self
unfolding rows_after
returns-then-i-self c =
    let s = c.args.self.now in
    let w = s.layout.width in
    let a = sym c.if-not-admits.ensures in
    let z = live_shut w s.places c.args.r s.sized a (omega (arith, c.place-i.ensures)) in
    record { answer = answer_shut w s.words.now s.places _ c.args.r s.sized z a; after = refl; kept = refl; changed = refl }

pub returns-then-read : goal.returns-then-read
unfolding rows_after
returns-then-read c =
    let s = c.args.self.now in
    record {
      answer = answer_held s.layout.width s.words.now s.places _ c.args.r s.sized (live_open c.place-i.result s.places c.if-i-self.false) (sym c.if-not-admits.ensures)
          (ap (bit s.words.now) (sym c.place-i.ensures) ∙ sym c.if-read.ensures);
      after = refl;
      kept = refl;
      changed = refl;
    }

pub returns : goal.returns
unfolding rows_after
returns c =
    let s = c.args.self.now in
    let w = s.layout.width in
    let t = c.raise.new.self in
    let a = sym c.if-not-admits.ensures in
    let o = live_open c.place-i.result s.places c.if-i-self.false in
    let b : bit s.words.now (place w c.args.r) ≡ false = ap (bit s.words.now) (sym c.place-i.ensures) ∙ sym c.if-read.ensures in
    let v : t.words.now ≡ raised s.words.now (place w c.args.r) = c.raise.ensures.words ∙ ap (raised s.words.now) c.place-i.ensures in
    record {
      answer = answer_added w s.words.now s.places _ c.args.r s.sized o a b;
      after = (λ i. marked (c.raise.ensures.layout i) (v i) 0 (c.raise.ensures.places i)) ∙ after_added w s.words.now s.places _ c.args.r s.sized o s.room a b;
      kept = limits_same t.places s.places t.layout.width w c.raise.ensures.places c.raise.ensures.layout;
      changed = (v, c.raise.ensures.layout, c.raise.ensures.places, c.raise.ensures.place);
    }

use Rattle.std.proofs.Common.{max, Some, sym, ap, ◌∙◌, subst, arith}
use Rattle.bit_places.specs.Sought.{Sought}
use Rattle.bit_places.specs.Places.{place}
use Rattle.bit_places.proofs.Lawfuls.{within}
use Rattle.bit_places.proofs.Seeks.{first_sought, first_nothing}
use Rattle.bits.proofs.BitsTable.next.Goals as goal

pub returns-in_err-i : goal.returns-in_err-i
returns-in_err-i c =
    let s = c.args.self.now in
    let w = s.layout.width in
    c.from_residual.ensures
    ∙ sym (first_nothing w s.words.now c.args.r s.places (max (place w c.args.r) s.places) (within w _ s.places s.sized)
    (subst (λ k. Sought s.words.now k s.places (max k s.places)) c.place.ensures c.in_err-i.ensures.sought) (omega arith))

pub returns : goal.returns
returns c =
    let s = c.args.self.now in
    let w = s.layout.width in
    ap Some c.row_at.ensures
    ∙ sym (first_sought w s.words.now c.args.r s.places c.in_ok-i.i (within w _ s.places s.sized)
    (subst (λ k. Sought s.words.now k s.places c.in_ok-i.i) c.place.ensures c.in_ok-i.ensures.sought) c.in_ok-i.ensures.within)

use Rattle.std.proofs.Common.{refl, sym, ◌∙◌}
use Rattle.bit_places.proofs.Placed.{place_open, place_past}
use Rattle.bits.proofs.places.Layout.place.Goals as goal

pub returns-then-r-ge-RELATIONS : goal.returns-then-r-ge-RELATIONS
returns-then-r-ge-RELATIONS c = c.base.ensures.is ∙ sym (place_past c.args.self.width c.args.r.now c.if-r-ge-RELATIONS.true)

pub returns : goal.returns
returns c = let p = place_open c.args.self.width c.args.r.now c.args.r.now.relation refl c.if-r-ge-RELATIONS.false in cc

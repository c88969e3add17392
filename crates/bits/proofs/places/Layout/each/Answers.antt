use Rattle.std.proofs.Common.{rules}
use Rattle.bit_places.specs.Places.{size}
use Rattle.bit_places.proofs.Openings.{each_open}
use Rattle.bit_places.proofs.Turns.{from_fn_is}
use Rattle.bits.proofs.places.Layout.each.Goals as goal

pub returns : goal.returns
returns c =
    let w = c.args.self.width in
    let h = c.from_fn.ensures.items in
    each_open w c.from_fn.result h.long (from_fn_is _ _ (size w) (λ i r q k. search rules) c.from_fn.result 0 40 h)

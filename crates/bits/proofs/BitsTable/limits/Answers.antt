use Rattle.std.proofs.Common.{sym, ap, ◌∙◌}
use Rattle.std.proofs.lemmas.Bool.{lt-ltb, le-ltb}
use Rattle.bit_places.specs.Opened.{each_limit}
use Rattle.bit_places.proofs.Openings.{each_shut, limits_are}
use Rattle.bits.proofs.BitsTable.limits.Goals as goal

pub returns-then-self-gt0 : goal.returns-then-self-gt0
returns-then-self-gt0 c =
    let s = c.args.self.now in
    let w = s.layout.width in
    limits_are c.width.result w s.places _ c.each.result c.width.ensures s.sized (c.each.ensures ∙ ap (λ b. each_limit b w) (sym (lt-ltb 0 s.places c.if-self-gt0.true)))

pub returns-else-self-gt0 : goal.returns-else-self-gt0
returns-else-self-gt0 c =
    let s = c.args.self.now in
    let w = s.layout.width in
    limits_are c.width.result w s.places _ _ c.width.ensures s.sized (each_shut w ∙ ap (λ b. each_limit b w) (sym (le-ltb 0 s.places c.if-self-gt0.false)))

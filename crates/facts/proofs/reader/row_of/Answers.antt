use Rattle.std.proofs.Common.{sym, ◌∙◌}
use Rattle.facts.proofs.Bytes.{one_code, two_codes, three_codes, three_left}
use Rattle.facts.proofs.reader.row_of.Goals as goal

pub returns-then-places-eq1 : goal.returns-then-places-eq1
returns-then-places-eq1 c =
    one_code _ _ _ _ _ c.requires c.in_ok-a.ensures (sym c.places-places.ensures ∙ c.if-places-eq1.true) c.new.ensures

pub returns-then-places-eq2 : goal.returns-then-places-eq2
returns-then-places-eq2 c =
    two_codes _ _ _ _ _ c.requires c.in_ok-a.ensures _ _ c.in_ok-b.ensures (sym c.places-places.ensures ∙ c.if-places-eq2.true) c.new-then-places-eq2.ensures

pub returns : goal.returns
returns c =
    let is = c.places-places.ensures in
    let p =
    three_left c.args.relation (λ h. c.if-places-eq1.false (is ∙ h)) (λ h. c.if-places-eq2.false (is ∙ h)) in
    three_codes _ _ _ _ _ c.requires c.in_ok-a.ensures _ _ c.in_ok-b.ensures _ _ c.in_ok-c.ensures p c.new-2.ensures

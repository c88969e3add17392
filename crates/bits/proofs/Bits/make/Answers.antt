use Rattle.std.proofs.Common.{◌≡◌, ◌++◌, true, false, length, drop, sym, ap, ◌∙◌, subst, arith, rules}
use Rattle.std.proofs.lemmas.List.{length-append, length-drop, length-take}
use Rattle.rows.specs.Openings.{if_open}
use Rattle.bit_places.specs.Marked.{marked}
use Rattle.bit_places.specs.Opened.{cleared}
use Rattle.bit_places.proofs.Openings.{Fitting, opened, open_live, open_sized, cleared_rows, no_rows}
use Rattle.bits.proofs.Bits.make.Goals as goal
use Rattle.bits.proofs.Bits.make.Goals.{After-words, After-base}

fits : (c : After-words) → Fitting (length c.args.words.now) c.in-Ok.layout.width
fits c = let o = c.in-Ok.ensures.opened in subst (Fitting (length c.args.words.now)) (sym o.0) (opened (length c.args.words.now) c.args.width o.2)

pub invariant_of-result-in_default-clause-counted : goal.invariant_of-result-in_default-clause-counted
invariant_of-result-in_default-clause-counted c = ap length (no_rows 1 c.args.words.now)

pub invariant_of-result-2 : goal.invariant_of-result-2
invariant_of-result-2 c =
    let ws = c.args.words.now in
    let w = c.in-Ok.layout.width in
    let f = fits (goal.at.invariant_of-result-2 c).After-words in
    let z : c.fill.new.self ++ drop c.words.result ws ≡ cleared c.words.result ws = search rules in
    record {
      sized = open_sized (length ws) w c.base.result f c.base.ensures.is;
      small = c.base.ensures.most;
      room = omega (arith, f.room, c.base.ensures.is, c.fill.ensures.len, length-append c.fill.new.self (drop c.words.result ws), length-take c.words.result ws, length-drop c.words.result ws);
      counted = ap (λ vs. length (marked w vs 0 c.base.result)) z ∙ ap length (cleared_rows w c.words.result ws c.base.result (omega (arith, c.words.ensures, c.base.ensures.is)));
    }

pub returns-clause-live : goal.returns-clause-live
returns-clause-live c =
    let ws = c.args.words.now in
    open_live (length ws) c.in-Ok.layout.width c.base.result (fits (goal.at.returns-clause-live c).After-words) c.base.ensures.is
    ∙ ap (λ o. if_open o true false) c.in-Ok.ensures.opened.2

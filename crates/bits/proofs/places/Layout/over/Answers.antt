use Rattle.std.proofs.Common.{◌≡◌, true, ltb, leb, sym, refl, arith}
use Rattle.std.proofs.lemmas.Bool.{and_from, lt-ltb, le-leb}
use Rattle.rows.specs.Openings.{opening}
use Rattle.bit_places.specs.Opened.{fits_width}
use Rattle.bit_places.proofs.Openings.{words_enough, words_few}
use Rattle.bits.proofs.places.Layout.over.Goals as goal
use Rattle.bits.proofs.places.Layout.over.Goals.{After-words}

wide : (c : goal.After-words) → fits_width c.args.width ≡ true
wide c = and_from (ltb 0 c.args.width) (leb c.args.width 32) (lt-ltb 0 c.args.width c.if-width-lt1.false) (le-leb c.args.width 32 c.if-width-gt-WIDEST.false)

pub returns-then-len-words-clause-refused : goal.returns-then-len-words-clause-refused
returns-then-len-words-clause-refused c =
    let f = words_few c.args.len c.args.width (omega (arith, c.words.ensures)) in
    sym (λ i. opening (wide (goal.at.returns-then-len-words-clause-refused c).After-words i) (f i))

pub returns-clause-opened : goal.returns-clause-opened
returns-clause-opened c =
    let f = words_enough c.args.len c.args.width (omega (arith, c.words.ensures)) in
    (refl, omega (arith, c.words.ensures), sym (λ i. opening (wide (goal.at.returns-clause-opened c).After-words i) (f i)))

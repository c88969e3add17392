use Rattle.std.proofs.Common.{◌≡◌, ◌+◌, ◌-◌, ◌*◌, ◌<◌, ◌≤◌, [], ◌∷◌, ◌++◌, length, get_or, take, drop, Some, Ok, Err, sym, refl, ap, ◌∙◌, append_assoc, arith, length-append, ltb-false}
use Rattle.rows.specs.Rows.{places}
use Rattle.facts.specs.declared.record.ReadFault.TheVariants.{UnknownMark, Cut}
use Rattle.facts.specs.Format.{mark, written, bytes_of, codes_of, Answered}
use Rattle.facts.proofs.Bytes.{front_two, mark_two}
use Rattle.facts.proofs.Files.{answered_once}
use Rattle.facts.proofs.reader.Reader.next_record.Goals as goal

pub returns-in_default : goal.returns-in_default
returns-in_default c =
    let at = c.args.self.now.offset in
    let bs = c.args.self.now.left.now in
    let two : 2 ≤ length bs = omega (arith, ltb-false) in
    let a : Answered at bs (Err (UnknownMark at)) at bs =
    (refl, (two, λ k m. c.in_default.ensures k m.0 (sym m.1 ∙ mark_two bs two)), refl, refl) in
    record { stands = a; only = answered_once at at bs bs _ a }

pub returns-in_default-row_of : goal.returns-in_default-row_of
returns-in_default-row_of c =
    let at = c.args.self.now.offset in
    let bs = c.args.self.now.left.now in
    let two : 2 ≤ length bs = omega (arith, ltb-false) in
    let m = c.in-Some.ensures in
    let k = c.in-Some.relation in
    let long : length bs ≡ 2 + length (take (length bs - 2) (drop 2 bs)) =
    ap length (front_two bs two) ∙ omega arith in
    let short : length bs < 2 + 2 * places k = omega (arith, long, c.in_default-row_of.ensures) in
    let a : Answered at bs (Err (Cut at)) at bs =
    (refl, (k, ((m.0, mark_two bs two ∙ sym m.1), short)), refl, refl) in
    record { stands = a; only = answered_once at at bs bs _ a }

pub returns-in-Some-row_of : goal.returns-in-Some-row_of
returns-in-Some-row_of c =
    let at = c.args.self.now.offset in
    let bs = c.args.self.now.left.now in
    let two : 2 ≤ length bs = omega (arith, ltb-false) in
    let m = c.in-Some.ensures in
    let e = c.in-Some-row_of.ensures in
    let row = c.in-Some-row_of.row in
    let left = c.in-Some-row_of.left.now in
    let here : mark row.relation ≡ get_or bs 0 0 ∷ get_or bs 1 0 ∷ [] = ap mark e.0 ∙ m.1 in
    let whole : bs ≡ written row ++ left =
    front_two bs two ∙ ap (λ t. get_or bs 0 0 ∷ get_or bs 1 0 ∷ t) e.2
    ∙ ap (λ t. t ++ (bytes_of (codes_of row) ++ left)) (sym here)
    ∙ sym (append_assoc (mark row.relation) (bytes_of (codes_of row)) left) in
    let long : length bs ≡ length (written row) + length left = ap length whole ∙ length-append (written row) left in
    let past = at + (length bs - length left) in
    let a : Answered at bs (Ok (Some (record { offset = at; row = row }))) past left =
    (refl, (omega (arith, m.0, e.0), e.1), whole, omega (arith, long)) in
    record { stands = a; only = answered_once at past bs left _ a }

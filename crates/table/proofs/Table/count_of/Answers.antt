use Rattle.std.proofs.Common.{◌≡◌, ◌<◌, true, length, sym, refl, ap, ◌∙◌, arith, rules}
use Rattle.rows.specs.Rows.{of_relation, admissible}
use Rattle.rows.proofs.Scan.{of_start, of_done, rest_none, first_above, first_held, stepped, length_of}
use Rattle.rows.proofs.Sets.{all_has}
use Rattle.rows.proofs.Order.{not_before_relation}
use Rattle.rows.proofs.Adds.{code_below}
use Rattle.table.proofs.Table.count_of.Goals as goal

pub loop-r-init : goal.loop-r-init
loop-r-init g c = rw c.start-from.ensures (refl, (let e = ap length (of_start c.args.relation (g.Self.Table.means.rows c.args.self.now)) in omega arith))

pub returns-then-r-relation : goal.returns-then-r-relation
returns-then-r-relation g c =
    let xs = g.Self.Table.means.rows c.args.self.now in
    let law = g.met.Self.Table.lawful c.args.self.now in
    let e = sym c.in-Some.ensures in
    let k = c.args.relation in
    let over = not_before_relation _ _ (first_above c.loop-r.from c.in-Some.r xs e) in
    let later : k < c.in-Some.r.relation = omega arith in
    let none = ap length (of_done k c.loop-r.from c.in-Some.r xs law.ascending e later) in
    omega arith

pub overflow_add-n : goal.overflow_add-n
overflow_add-n g c =
    let xs = g.Self.Table.means.rows c.args.self.now in
    let law = g.met.Self.Table.lawful c.args.self.now in
    let s = stepped c.args.relation c.loop-r.from c.in-Some.r xs law.ascending c.in-Some.ensures c.if-r-relation.false in
    let few = length_of c.args.relation xs in
    search rules

pub after-from-requires : goal.after-from-requires
after-from-requires g c =
    let xs = g.Self.Table.means.rows c.args.self.now in
    let law = g.met.Self.Table.lawful c.args.self.now in
    let w = (g.Self.Table.means.bounds c.args.self.now).width in
    let h = first_held c.loop-r.from c.in-Some.r xs (sym c.in-Some.ensures) in
    let b = code_below w c.in-Some.r (all_has (λ x. admissible w x ≡ true) xs c.in-Some.r law.sound h) in
    search rules

pub loop-r-smaller : goal.loop-r-smaller
loop-r-smaller g c =
    let xs = g.Self.Table.means.rows c.args.self.now in
    let law = g.met.Self.Table.lawful c.args.self.now in
    let s = stepped c.args.relation c.loop-r.from c.in-Some.r xs law.ascending c.in-Some.ensures c.if-r-relation.false in
    rw c.after-from.ensures (omega (arith, s.shorter))

pub loop-r-preserved : goal.loop-r-preserved
loop-r-preserved g c =
    let xs = g.Self.Table.means.rows c.args.self.now in
    let law = g.met.Self.Table.lawful c.args.self.now in
    let s = stepped c.args.relation c.loop-r.from c.in-Some.r xs law.ascending c.in-Some.ensures c.if-r-relation.false in
    rw c.after-from.ensures (c.if-r-relation.false, omega (arith, s.counted))

pub returns : goal.returns
unfolding of_relation
returns g c =
    let xs = g.Self.Table.means.rows c.args.self.now in
    let none = ap (λ ys. length (of_relation c.args.relation ys)) (rest_none c.loop-r.from xs (sym c.next.ensures ∙ c.in_default.is)) in
    omega arith

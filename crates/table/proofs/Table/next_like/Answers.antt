use Rattle.std.proofs.Common.{◌<◌, length, sym, refl, subst}
use Rattle.rows.specs.declared.row.Row.{Row}
use Rattle.rows.specs.Rows.{rest}
use Rattle.rows.proofs.Order.{before_irrefl}
use Rattle.rows.proofs.Codes.{next_code}
use Rattle.rows.proofs.Liked.{sought_is}
use Rattle.rows.proofs.Leaping.{Come, come_end, come_none, come_past, come_found, come_less, come_on}
use Rattle.table.proofs.Table.next_like.Goals as goal

pub loop-start-init : goal.loop-start-init
loop-start-init g c = (refl, before_irrefl c.args.from, λ y h s. (sought_is _ _ y s).above)

pub returns-in_default-next : goal.returns-in_default-next
returns-in_default-next g c =
    come_none (g.Self.Table.means.rows c.args.self.now) (g.met.Self.Table.lawful c.args.self.now).ascending c.args.from c.args.like
    c.loop-start.at c.loop-start.invariant c.in-Some.start c.in-Some.ensures c.in_default-next.ensures

pub returns-then-r-from : goal.returns-then-r-from
returns-then-r-from g c =
    come_past (g.Self.Table.means.rows c.args.self.now) (g.met.Self.Table.lawful c.args.self.now).ascending c.args.from c.args.like
    c.loop-start.at c.loop-start.invariant c.in-Some.start c.in-Some.ensures c.in-Some-next.r c.in-Some-next.ensures
    c.if-r-from.true

pub returns-then-fits : goal.returns-then-fits
returns-then-fits g c =
    come_found (g.Self.Table.means.rows c.args.self.now) (g.met.Self.Table.lawful c.args.self.now).ascending c.args.from c.args.like
    c.loop-start.at c.loop-start.invariant c.in-Some.start c.in-Some.ensures c.in-Some-next.r c.in-Some-next.ensures
    c.if-r-from.false (sym c.if-fits.ensures)

pub after-at-requires : goal.after-at-requires
after-at-requires g c =
    next_code _ _ (g.met.Self.Table.lawful c.args.self.now) c.in-Some.start c.in-Some-next.r c.in-Some-next.ensures

pub loop-start-smaller : goal.loop-start-smaller
loop-start-smaller g c =
    let xs = g.Self.Table.means.rows c.args.self.now in
    subst (λ (w : Row). length (rest w xs) < length (rest c.loop-start.at xs)) (sym c.after-at.ensures)
    (come_less xs (g.met.Self.Table.lawful c.args.self.now).ascending c.args.from c.args.like
    c.loop-start.at c.loop-start.invariant c.in-Some.start c.in-Some.ensures c.in-Some-next.r c.in-Some-next.ensures
    c.if-r-from.false)

pub loop-start-preserved : goal.loop-start-preserved
loop-start-preserved g c =
    let xs = g.Self.Table.means.rows c.args.self.now in
    let asc = (g.met.Self.Table.lawful c.args.self.now).ascending in
    subst (Come xs asc c.args.from c.args.like) (sym c.after-at.ensures)
    (come_on xs asc c.args.from c.args.like
    c.loop-start.at c.loop-start.invariant c.in-Some.start c.in-Some.ensures c.in-Some-next.r c.in-Some-next.ensures
    c.if-r-from.false (sym c.if-fits.ensures))

pub returns : goal.returns
returns g c =
    come_end (g.Self.Table.means.rows c.args.self.now) (g.met.Self.Table.lawful c.args.self.now).ascending c.args.from c.args.like
    c.loop-start.at c.loop-start.invariant c.in_default.ensures

use Rattle.std.proofs.Common.{◌<◌, length, sym, refl, subst}
use Rattle.rows.specs.declared.row.Row.{Row}
use Rattle.rows.specs.Rows.{rest}
use Rattle.rows.proofs.Order.{before_irrefl}
use Rattle.rows.proofs.Codes.{next_code}
use Rattle.rows.proofs.Liked.{sought_is}
use Rattle.rows.proofs.Leaping.{Come, come_none, come_past, come_found, come_less, come_on}
use Rattle.counting.proofs.CountedTable.next_like.Goals as goal

pub loop-r-init : goal.loop-r-init
loop-r-init g c = (refl, before_irrefl c.args.from, λ y h s. (sought_is _ _ y s).above)

pub returns : goal.returns
returns g c =
    come_none (g.T.Table.means.rows c.args.self.now.below) (g.met.T.Table.lawful c.args.self.now.below).ascending c.args.from c.args.like
    c.loop-r.at c.loop-r.invariant c.place.result c.place.ensures c.in_default.ensures

pub returns-then-r-from : goal.returns-then-r-from
returns-then-r-from g c =
    come_past (g.T.Table.means.rows c.args.self.now.below) (g.met.T.Table.lawful c.args.self.now.below).ascending c.args.from c.args.like
    c.loop-r.at c.loop-r.invariant c.place.result c.place.ensures c.in-Some.r c.in-Some.ensures
    c.if-r-from.true

pub returns-then-fits : goal.returns-then-fits
returns-then-fits g c =
    come_found (g.T.Table.means.rows c.args.self.now.below) (g.met.T.Table.lawful c.args.self.now.below).ascending c.args.from c.args.like
    c.loop-r.at c.loop-r.invariant c.place.result c.place.ensures c.in-Some.r c.in-Some.ensures
    c.if-r-from.false (sym c.if-fits.ensures)

pub after-at-requires : goal.after-at-requires
after-at-requires g c =
    next_code _ _ (g.met.T.Table.lawful c.args.self.now.below) c.place.result c.in-Some.r c.in-Some.ensures

pub loop-r-smaller : goal.loop-r-smaller
loop-r-smaller g c =
    let xs = g.T.Table.means.rows c.args.self.now.below in
    subst (λ (w : Row). length (rest w xs) < length (rest c.loop-r.at xs)) (sym c.after-at.ensures)
    (come_less xs (g.met.T.Table.lawful c.args.self.now.below).ascending c.args.from c.args.like
    c.loop-r.at c.loop-r.invariant c.place.result c.place.ensures c.in-Some.r c.in-Some.ensures
    c.if-r-from.false)

pub loop-r-preserved : goal.loop-r-preserved
loop-r-preserved g c =
    let xs = g.T.Table.means.rows c.args.self.now.below in
    let asc = (g.met.T.Table.lawful c.args.self.now.below).ascending in
    subst (Come xs asc c.args.from c.args.like) (sym c.after-at.ensures)
    (come_on xs asc c.args.from c.args.like
    c.loop-r.at c.loop-r.invariant c.place.result c.place.ensures c.in-Some.r c.in-Some.ensures
    c.if-r-from.false (sym c.if-fits.ensures))

use Rattle.std.proofs.Common.{◌≡◌, sym, ap, ◌∙◌, arith}
use Rattle.bit_places.specs.Places.{base}
use Rattle.bit_places.proofs.Sizes.{base_none, base_suc, relation_is}
use Rattle.bits.proofs.places.Layout.relation_at.Goals as goal

pub loop-k-init : goal.loop-k-init
loop-k-init c = (sym (base_none c.args.self.width), omega arith)

pub returns-then-i-at-clause-is : goal.returns-then-i-at-clause-is
returns-then-i-at-clause-is c = relation_is c.args.self.width c.args.i c.loop-k.k (omega arith) c.requires (omega arith) (omega arith)

pub loop-k-preserved : goal.loop-k-preserved
loop-k-preserved c = let b = base_suc c.args.self.width c.loop-k.k in (omega arith, omega arith)

pub returns-clause-is : goal.returns-clause-is
returns-clause-is c =
    let k : c.loop-k.k ≡ 39 = omega arith in
    let b = base_suc c.args.self.width 39 in
    let a : c.loop-k.at ≡ base c.args.self.width 39 = c.loop-k.invariant.0 ∙ ap (base c.args.self.width) k in
    relation_is c.args.self.width c.args.i 39 (omega arith) c.requires (omega arith) (omega (arith, c.requires))

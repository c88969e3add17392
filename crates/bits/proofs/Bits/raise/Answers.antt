use Rattle.std.proofs.Common.{◌≡◌, ◌+◌, ◌*◌, ◌/◌, ◌%◌, ◌^◌, ◌≤◌, length, get_or, set, ap, ◌∙◌, arith, rules}
use lib.Bits.{bit_or}
use Rattle.std.proofs.lemmas.List.{length-set}
use Rattle.std.proofs.lemmas.Nat.{one_shl}
use Rattle.bit_places.specs.Bit.{raised}
use Rattle.bit_places.specs.Marked.{marked}
use Rattle.bit_places.proofs.Lawfuls.{within}
use Rattle.bit_places.proofs.Marks.{few_marked}
use Rattle.bit_places.proofs.Tabled.{count_raised}
use Rattle.bits.proofs.Bits.raise.Goals as goal

pub overflow_add-self : goal.overflow_add-self
overflow_add-self c =
    let s = c.args.self.now in
    let f = few_marked s.layout.width s.words.now 0 s.places in
    let b : s.held ≤ 1310720 = omega (arith, s.counted) in
    search rules

pub invariant_of-self : goal.invariant_of-self
invariant_of-self c =
    let s = c.args.self.now in
    let i = c.args.i in
    let ws = s.words.now in
    let v : set ws (i / 64) (bit_or (get_or ws (i / 64) 0) ((1 * 2 ^ (i % 64)) % 2 ^ 64)) ≡ raised ws i = ap (λ m. set ws (i / 64) (bit_or (get_or ws (i / 64) 0) m)) (one_shl (i % 64) 64 (omega arith)) in
    let n = count_raised s.layout.width ws s.places i (within s.layout.width _ s.places s.sized) s.room c.requires.within c.requires.fresh in
    record {
      sized = s.sized;
      small = s.small;
      room = simp length-set s.room;
      counted = ap (λ vs. length (marked s.layout.width vs 0 s.places)) v ∙ n ∙ ap (λ k. k + 1) s.counted;
    }

-- A number or a point is what its fields say: a range holds in one way.
use Rattle.std.specs.Prelude.{◌≡◌, ℕ, ◌+◌, ◌*◌, ◌/◌, ◌%◌, ◌<◌, ◌≤◌, Bool, true, false, T, Some, nat_le, nat_lt, refl}
use Rattle.std.proofs.Common.{sym, ap, arith, leb→le, ltb→lt, lt-ltb, le-leb}
use mathlib.Core.HLevel.{is_prop→PathP}
use Rattle.std.proofs.Math.Bridge.{le_prop}
use Rattle.facts.specs.declared.number.Number.{Number}
use Rattle.facts.specs.declared.point.Point.{Point}
use Rattle.facts.specs.Numbers.{number_when, number_of}
use Rattle.facts.specs.Points.{point_when, point_at, point_number, point_of}

same_number : (x y : Number) → x.value ≡ y.value → x ≡ y
same_number x y e j = record {
  value = e j;
  range = is_prop→PathP (λ k. e k < 65535) (λ k. le_prop) x.range y.range j;
}

number_some : (n : ℕ) (b : Bool) (h : T b → n < 65535) (x : Number) → b ≡ true → x.value ≡ n → number_when n b h ≡ Some x
number_some n true h x t e = ap Some (same_number (record { value = n; range = h tt }) x (sym e))
number_some n false h x t e = absurd (let z : ◌≡◌ {A = ℕ} 0 1 = cc in omega arith)

pub number_made : (x : Number) → number_of x.value ≡ Some x
number_made x =
    number_some x.value (nat_lt x.value 65535) (ltb→lt x.value 65535) x (lt-ltb x.value 65535 x.range) refl

same_point : (x y : Point) → x.block ≡ y.block → x.statement ≡ y.statement → x.half ≡ y.half → x ≡ y
same_point x y e f g j = record {
  block = e j;
  statement = f j;
  half = g j;
  blocks = is_prop→PathP (λ k. e k ≤ 1022) (λ k. le_prop) x.blocks y.blocks j;
  statements = is_prop→PathP (λ k. f k ≤ 31) (λ k. le_prop) x.statements y.statements j;
  halves = is_prop→PathP (λ k. g k ≤ 1) (λ k. le_prop) x.halves y.halves j;
}

-- the three numbers b, s and h are the point x
module _ (b s h : ℕ) (x : Point) (eb : b ≡ x.block) (es : s ≡ x.statement) (eh : h ≡ x.half) where
  point_some : (p q r : Bool) (P : T p → b ≤ 1022) (Q : T q → s ≤ 31) (R : T r → h ≤ 1) → p ≡ true → q ≡ true → r ≡ true → point_when b s h p q r P Q R ≡ Some x
  point_some true true true P Q R t u v =
      ap Some (same_point (record { block = b; statement = s; half = h; blocks = P tt; statements = Q tt; halves = R tt }) x eb es eh)
  point_some true true false P Q R t u v = absurd (let z : ◌≡◌ {A = ℕ} 0 1 = cc in omega arith)
  point_some true false r P Q R t u v = absurd (let z : ◌≡◌ {A = ℕ} 0 1 = cc in omega arith)
  point_some false q r P Q R t u v = absurd (let z : ◌≡◌ {A = ℕ} 0 1 = cc in omega arith)

  pub point_made : point_at b s h ≡ Some x
  point_made =
      let ib : b ≤ 1022 = omega (arith, x.blocks) in
      let is : s ≤ 31 = omega (arith, x.statements) in
      let ih : h ≤ 1 = omega (arith, x.halves) in
      point_some (nat_le b 1022) (nat_le s 31) (nat_le h 1) (leb→le b 1022) (leb→le s 31) (leb→le h 1)
      (le-leb b 1022 ib) (le-leb s 31 is) (le-leb h 1 ih)

-- the point of a point's number is that point
pub point_back : (x : Point) → point_of (point_number x) ≡ Some x
point_back x =
    let b : (x.block * 64 + x.statement * 2 + x.half) / 64 ≡ x.block = omega (arith, x.statements, x.halves) in
    let s : (x.block * 64 + x.statement * 2 + x.half) % 64 / 2 ≡ x.statement = omega (arith, x.statements, x.halves) in
    let h : (x.block * 64 + x.statement * 2 + x.half) % 2 ≡ x.half = omega (arith, x.statements, x.halves) in
    point_made _ _ _ x b s h

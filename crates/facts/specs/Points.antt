-- Program points as atoms: block × 64 + statement × 2 + half, of a block from 0 to 1,022, a statement from 0 to 31 and a half 0 or 1.
use Rattle.std.specs.Prelude.{ℕ, ◌+◌, ◌*◌, ◌/◌, ◌%◌, ◌≤◌, Bool, true, false, T, Some, None, Option, nat_le}
use Rattle.std.proofs.Common.{leb→le}
use Rattle.facts.specs.declared.point.Point.{Point}

abbrev pub point_number : Point → ℕ
point_number p = p.block * 64 + p.statement * 2 + p.half

-- the point of three numbers, if the tests say that they are in range
abbrev pub point_when : (block statement half : ℕ) (p q r : Bool) → (T p → block ≤ 1022) → (T q → statement ≤ 31) → (T r → half ≤ 1) → Option Point
point_when b s h true true true p q r =
    Some (record { block = b; statement = s; half = h; blocks = p tt; statements = q tt; halves = r tt })
point_when b s h true true false p q r = None
point_when b s h true false u p q r = None
point_when b s h false t u p q r = None

abbrev pub point_at : (block statement half : ℕ) → Option Point
point_at b s h = point_when b s h (nat_le b 1022) (nat_le s 31) (nat_le h 1) (leb→le b 1022) (leb→le s 31) (leb→le h 1)

-- the point that has the number n
abbrev pub point_of : ℕ → Option Point
point_of n = point_at (n / 64) (n % 64 / 2) (n % 2)

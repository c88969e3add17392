-- The derived order of rows is the order of the definitions.
use Rattle.std.proofs.Common.{◌≡◌, ℕ, cond, Some, Option, ◌==◌, nat_lt, arith}
use Rattle.std.specs.Ordering.{is_some_and, is_lt, partial_ordering_then, nat_cmp}
use Rattle.std.specs.declared.cmp.Ordering.{Ordering}
use Rattle.std.proofs.lemmas.Bool.Decides.{nat_tests}

pub by_code : (x y : ℕ) (p : Option Ordering) → is_some_and is_lt (partial_ordering_then (Some (nat_cmp x y)) p) ≡ cond (x == y) (is_some_and is_lt p) (nat_lt x y)
by_code x y p = grind (arith, nat_tests)

pub by_last : (x y : ℕ) → is_lt (nat_cmp x y) ≡ nat_lt x y
by_last x y = grind (arith, nat_tests)

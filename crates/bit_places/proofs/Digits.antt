-- Two digits: their number keeps their order.
use Rattle.std.proofs.Common.{◌≡◌, ℕ, suc, ◌+◌, ◌*◌, ◌<◌, ◌≤◌, mul-le-mul_right, arith}
use Rattle.bit_places.specs.Places.{digit}

module _ (n m q r : ℕ) (h : q < n) (l : r < m) where
  within : suc q * m ≤ n * m
  within = mul-le-mul_right m h

  pub digit_is : digit n m q r ≡ q * m + r
  digit_is = omega (arith, within)

  pub digit_below : q * m + r < n * m
  digit_below = omega (arith, within)

  pub first_less : (p s : ℕ) → q < p → q * m + r < digit n m p s
  first_less p s g = omega (arith, within, mul-le-mul_right m g)

  pub first_more : (p s : ℕ) → p < q → digit n m p s ≤ q * m + r
  first_more p s g = omega (arith, mul-le-mul_right m g)

  pub second_less : (s : ℕ) → r < s → q * m + r < digit n m q s
  second_less s g = omega (arith, within)

  pub second_more : (s : ℕ) → s ≤ r → digit n m q s ≤ q * m + r
  second_more s g = omega (arith)

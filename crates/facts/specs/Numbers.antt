-- Bare numbers as atoms: every number from 0 to 65,534 is one.
use Rattle.std.specs.Prelude.{ℕ, ◌<◌, Bool, true, false, T, Some, None, Option, nat_lt}
use Rattle.std.proofs.Common.{ltb→lt}
use Rattle.facts.specs.declared.number.Number.{Number}

-- the number n, if the test says that it is in range
abbrev pub number_when : (n : ℕ) (b : Bool) → (T b → n < 65535) → Option Number
number_when n true h = Some (record { value = n; range = h tt })
number_when n false h = None

abbrev pub number_of : ℕ → Option Number
number_of n = number_when n (nat_lt n 65535) (ltb→lt n 65535)

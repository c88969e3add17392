-- What the opening of a table over words answers, and the width that a making then gives.
use Rattle.std.specs.Prelude.{ℕ, Bool, cond, Ok, Err, Result}
use Rattle.rows.specs.declared.answer.OpenFault.{OpenFault}
use Rattle.rows.specs.declared.answer.OpenFault.TheVariants.{Width, Words}

-- the number of a refusal
abbrev pub open_number : OpenFault → ℕ
open_number Width = 1
open_number Words = 2

-- by whether the width will do, and then whether there are words enough
abbrev pub opening : Bool → Bool → Result (Unit {0}) OpenFault
opening width words = cond width (cond words (Ok tt) (Err Words)) (Err Width)

-- a value where the opening is accepted, and another past a refusal
abbrev pub if_open : {X : Type 0} → Result (Unit {0}) OpenFault → X → X → X
if_open (Ok u) x y = x
if_open (Err e) x y = y

-- What an opening that is accepted says of its width and its words.
use Rattle.std.proofs.Common.{◌≡◌, ℕ, Bool, true, false, Ok, refl, arith}
use Rattle.rows.specs.Openings.{opening}

pub opening_ok : (width words : Bool) → Ok tt ≡ opening width words → (width ≡ true) × (words ≡ true)
opening_ok true true e = (refl, refl)
opening_ok true false e = absurd (let z : ◌≡◌ {A = ℕ} 0 1 = cc in omega arith)
opening_ok false words e = absurd (let z : ◌≡◌ {A = ℕ} 0 1 = cc in omega arith)

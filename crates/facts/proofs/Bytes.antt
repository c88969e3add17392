-- Bytes taken apart: two at the front, the codes of a row, a whole record.
use Rattle.std.proofs.Common.{◌≡◌, ℕ, suc, ◌+◌, ◌-◌, ◌*◌, ◌/◌, ◌%◌, ◌<◌, ◌≤◌, true, List, [], ◌∷◌, ◌++◌, length, get_or, take, drop, sym, refl, ap, ◌∙◌, subst, arith, take_all}
use Rattle.std.specs.Int.{w16, from_le_bytes}
use Rattle.std.proofs.lemmas.Bool.Decides.{nat_tests}
use Rattle.rows.specs.declared.row.Row.{Row}
use Rattle.rows.specs.Rows.{admissible, places}
use Rattle.rows.specs.Relations.{row1, row2, row3}
use Rattle.facts.specs.Format.{two_bytes, bytes_of, codes_of}

pub front_two : (bs : List ℕ) → 2 ≤ length bs → bs ≡ get_or bs 0 0 ∷ get_or bs 1 0 ∷ take (length bs - 2) (drop 2 bs)
front_two [] h = absurd (omega arith)
front_two (x ∷ []) h = absurd (omega arith)
front_two (x ∷ y ∷ bs) h =
    let e : length bs ≤ suc (suc (length bs)) - 2 = omega arith in
    ap (λ t. x ∷ y ∷ t) (sym (take_all (suc (suc (length bs)) - 2) bs e))

-- the first two bytes are the mark
pub mark_two : (bs : List ℕ) → 2 ≤ length bs → take 2 bs ≡ get_or bs 0 0 ∷ get_or bs 1 0 ∷ []
mark_two [] h = absurd (omega arith)
mark_two (x ∷ []) h = absurd (omega arith)
mark_two (x ∷ y ∷ bs) h = refl

-- the front two, each by itself
pub each_front : (bs front : List ℕ) → 2 ≤ length bs → front ≡ take 2 bs → (get_or front 0 0 ∷ get_or front 1 0 ∷ []) ≡ take 2 bs
each_front [] front h e = absurd (omega arith)
each_front (x ∷ []) front h e = absurd (omega arith)
each_front (x ∷ y ∷ bs) front h e = ap (λ z. get_or z 0 0 ∷ get_or z 1 0 ∷ []) e

-- the code of the two bytes at the front
pub code_bytes : (bs code rest : List ℕ) (n : ℕ) → 2 ≤ length bs → ((i : ℕ) → get_or bs i 0 < 256) → code ≡ take 2 bs → rest ≡ drop 2 bs → n ≡ from_le_bytes w16 code → bs ≡ two_bytes n ++ rest
code_bytes [] code rest n two small c r e = absurd (omega arith)
code_bytes (low ∷ []) code rest n two small c r e = absurd (omega arith)
code_bytes (low ∷ high ∷ bs) code rest n two small c r e =
    let is : n ≡ low + high * 256 = e ∙ ap (from_le_bytes w16) c in
    let l : n % 256 ≡ low = omega (arith, small 0) in
    let h : n / 256 ≡ high = omega (arith, small 0) in
    cc

-- the bytes begin with the codes of a row of the relation
abbrev pub Begins : ℕ → List ℕ → List ℕ → Row → Type 0
Begins k bytes rest r =
    (r.relation ≡ k) × (admissible 65536 r ≡ true) × (bytes ≡ bytes_of (codes_of r) ++ rest)

-- they begin with a code
abbrev pub Coded : List ℕ → List ℕ → ℕ → Type 0
Coded bytes rest n = (n < 65536) × (bytes ≡ two_bytes n ++ rest)

module _ (k : ℕ) (bytes xs : List ℕ) (a : ℕ) (r : Row) (fact : k < 18) (d : Coded bytes xs a) where
  pub one_code : places k ≡ 1 → r ≡ row1 k a → Begins k bytes xs r
  unfolding admissible
  one_code p is =
      let n = ap (λ n. bytes_of (take n (a ∷ 0 ∷ 0 ∷ []))) p in
      subst (Begins k bytes xs) (sym is) (refl, grind (arith, nat_tests), d.1 ∙ ap (λ t. t ++ xs) (sym n))

  module _ (ys : List ℕ) (b : ℕ) (e : Coded xs ys b) where
    pub two_codes : places k ≡ 2 → r ≡ row2 k a b → Begins k bytes ys r
    unfolding admissible
    two_codes p is =
        let n = ap (λ n. bytes_of (take n (a ∷ b ∷ 0 ∷ []))) p in
        subst (Begins k bytes ys) (sym is)
        (refl, grind (arith, nat_tests), d.1 ∙ ap (λ t. two_bytes a ++ t) e.1 ∙ ap (λ t. t ++ ys) (sym n))

    pub three_codes : (zs : List ℕ) (c : ℕ) → Coded ys zs c → places k ≡ 3 → r ≡ row3 k a b c → Begins k bytes zs r
    unfolding admissible
    three_codes zs c f p is =
        let n = ap (λ n. bytes_of (take n (a ∷ b ∷ c ∷ []))) p in
        subst (Begins k bytes zs) (sym is)
        (refl, grind (arith, nat_tests), d.1 ∙ ap (λ t. two_bytes a ++ t) (e.1 ∙ ap (λ t. two_bytes b ++ t) f.1) ∙ ap (λ t. t ++ zs) (sym n))

-- a relation has one place, two or three
pub three_left : (k : ℕ) → (places k ≡ 1 → ⊥) → (places k ≡ 2 → ⊥) → places k ≡ 3
three_left k p q = grind (arith, nat_tests)

-- Rows, their order, and finite sets of rows as strictly ascending lists.
use Rattle.std.specs.Prelude.{◌≡◌, ℕ, ◌+◌, Bool, true, false, cond, ◌&&◌, ◌||◌, List, [], ◌∷◌, Some, None, Option, ◌==◌, nat_lt}
use Rattle.std.specs.List.{AllByRecursion}
use Rattle.rows.specs.declared.row.Row.{Row}

-- by relation, then code by code
unfoldable pub before : Row → Row → Bool
before r s =
    cond (r.relation == s.relation)
    (cond (r.a == s.a)
    (cond (r.b == s.b) (nat_lt r.c s.c) (nat_lt r.b s.b))
    (nat_lt r.a s.a))
    (nat_lt r.relation s.relation)

unfoldable pub same : Row → Row → Bool
same r s = r.relation == s.relation && r.a == s.a && r.b == s.b && r.c == s.c

-- relation 1 has one place, 0, 4, 32, 33 and 36 have three, and the others two
abbrev pub one_place : ℕ → Bool
one_place k = k == 1

abbrev pub three_places : ℕ → Bool
three_places k = k == 0 || k == 4 || k == 32 || k == 33 || k == 36

abbrev pub places : ℕ → ℕ
places k = cond (one_place k) 1 (cond (three_places k) 3 2)

-- A table of width w may hold the row: its relation is one of the forty, its codes are below w, its unused places are 0.
unfoldable pub admissible : ℕ → Row → Bool
admissible w r =
    nat_lt r.relation 40 && nat_lt r.a w
    && nat_lt r.b (cond (one_place r.relation) 1 w)
    && nat_lt r.c (cond (three_places r.relation) w 1)

-- A set of rows is a strictly ascending list.
abbrev pub Asc : List Row → Type 0
Asc [] = Unit {0}
Asc (x ∷ xs) = AllByRecursion (λ y. before x y ≡ true) xs × Asc xs

unfoldable pub has : List Row → Row → Bool
has [] r = false
has (x ∷ xs) r = same x r || has xs r

unfoldable pub insert : Row → List Row → List Row
insert r [] = r ∷ []
insert r (x ∷ xs) = cond (before r x) (r ∷ x ∷ xs) (cond (before x r) (x ∷ insert r xs) (x ∷ xs))

-- the least row that is not below r
unfoldable pub first_from : List Row → Row → Option Row
first_from [] r = None
first_from (x ∷ xs) r = cond (before x r) (first_from xs r) (Some x)

-- the rows of one relation
unfoldable pub of_relation : ℕ → List Row → List Row
of_relation k [] = []
of_relation k (x ∷ xs) = cond (x.relation == k) (x ∷ of_relation k xs) (of_relation k xs)

-- the rows that are not below r
unfoldable pub rest : Row → List Row → List Row
rest r [] = []
rest r (x ∷ xs) = cond (before x r) (rest r xs) (x ∷ xs)

-- the row right after r: no row lies between
abbrev pub bump : Row → Row
bump r = record { relation = r.relation; a = r.a; b = r.b; c = r.c + 1 }

-- the first row that a relation could have
abbrev pub start : ℕ → Row
start k = record { relation = k; a = 0; b = 0; c = 0 }

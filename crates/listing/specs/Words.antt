-- Rows in words: the name of the relation, and what each code is.
use Rattle.std.specs.Prelude.{ℕ, Bool, ◌==◌, ◌||◌, cond, List, [], ◌∷◌, ◌++◌, codes, decimal, slice_index_or, map}
use Rattle.rows.specs.declared.row.Row.{Row}
use Rattle.rows.specs.declared.answer.Outcome.{Outcome}
use Rattle.rows.specs.declared.answer.Outcome.TheVariants.{Held, Added}
use Rattle.rows.specs.declared.relation.TheConstants.{NAMES}
use Rattle.facts.specs.Format.{mark, codes_of}
use Rattle.listing.specs.declared.load.Loaded.{Loaded}

-- The name of a relation; none past the forty.
unfoldable pub name : ℕ → List ℕ
name relation = slice_index_or (map (λ s. s.now) NAMES) relation []

-- What the codes of a relation's rows are. Unused places have no word.
unfoldable pub kinds : ℕ → List (List ℕ)
kinds k =
    cond (k == 0 || k == 33) (codes "origin" ∷ codes "loan" ∷ codes "point" ∷ [])
    (cond (k == 4 || k == 32 || k == 36) (codes "origin" ∷ codes "origin" ∷ codes "point" ∷ [])
    (cond (k == 1) (codes "origin" ∷ [] ∷ [] ∷ [])
    (cond (k == 2) (codes "point" ∷ codes "point" ∷ [] ∷ [])
    (cond (k == 5) (codes "point" ∷ codes "loan" ∷ [] ∷ [])
    (cond (k == 3 || k == 34 || k == 35 || k == 38) (codes "loan" ∷ codes "point" ∷ [] ∷ [])
    (cond (k == 17 || k == 30 || k == 37) (codes "origin" ∷ codes "loan" ∷ [] ∷ [])
    (cond (k == 29) (codes "origin" ∷ codes "point" ∷ [] ∷ [])
    (cond (k == 11) (codes "child path" ∷ codes "parent path" ∷ [] ∷ [])
    (cond (k == 18) (codes "ancestor path" ∷ codes "path" ∷ [] ∷ [])
    (cond (k == 12 || k == 22) (codes "path" ∷ codes "variable" ∷ [] ∷ [])
    (cond (k == 9 || k == 10) (codes "variable" ∷ codes "origin" ∷ [] ∷ [])
    (cond (k == 16 || k == 31 || k == 39) (codes "origin" ∷ codes "origin" ∷ [] ∷ [])
    (cond (k == 6 || k == 7 || k == 8 || k == 25 || k == 27 || k == 28) (codes "variable" ∷ codes "point" ∷ [] ∷ [])
    (codes "path" ∷ codes "point" ∷ [] ∷ []))))))))))))))

-- Codes with what each is: a bracket stands before the first, a comma before each of the others.
abbrev pub told : List ℕ → List (List ℕ) → List ℕ → List ℕ
told before [] ns = codes ")"
told before (k ∷ ks) [] = codes ")"
told before (k ∷ ks) (n ∷ ns) = before ++ (k ++ (codes " " ++ (decimal n ++ told (codes ", ") ks ns)))

abbrev pub named : Row → List ℕ
named r = name r.relation ++ told (codes "(") (kinds r.relation) (codes_of r)

-- Whether a row was new.
abbrev pub answer : Outcome → List ℕ
answer Held = codes "held already"
answer Added = codes "added"

-- A fact that was put: where its record stands, the record's mark, the row, and whether it was new.
abbrev pub fact_words : Loaded → List ℕ
fact_words x =
    codes "at "
    ++ (decimal x.«record».offset ++ (codes ": " ++ (mark x.«record».row.relation ++ (codes " " ++ (named x.«record».row ++ (codes ": " ++ answer x.outcome))))))

-- The relations whose rows are errors.
abbrev pub tells_error : ℕ → Bool
tells_error k = k == 26 || k == 35 || k == 36 || k == 38 || k == 39

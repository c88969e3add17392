-- Completions by computation: each relation closed in turn, with fuel.
use Rattle.std.proofs.Common.{◌≡◌, ℕ, zero, suc, Bool, true, false, ◌&&◌, ◌↔◌, List, [], ◌∷◌, subst}
use Rattle.std.proofs.lemmas.Bool.{and_parts}
use Rattle.rows.specs.declared.row.Row.{Row}
use Rattle.rows.specs.Rows.{has}
use Rattle.datalog.specs.Contents.{Content, Among, Least}
use Rattle.datalog.specs.Datalog.{Rule, least, complete}
use Rattle.datalog.proofs.Truths.{T_from}
use Rattle.datalog.proofs.Engine.{Sub, has_here, has_there, has_cons, has_none, least_inside, complete_same}
use Rattle.theorems.proofs.Proposals.{proposals, proposals_from, proposals_has, ranged}

abbrev pub within : List Row → List Row → Bool
within [] d = true
within (r ∷ rs) d = has d r && within rs d

-- the rows of d, and those of others that d lacks
abbrev pub add : List Row → List Row → List Row
add d [] = d
add d (s ∷ ss) = elim (has d s) [ true ↦ add d ss | false ↦ add (s ∷ d) ss ]

-- all proposals added, again and again, denials taken from c
abbrev pub close : List Row → ℕ → Rule → List Row → List Row
close c zero R d = d
close c (suc n) R d =
    let new : List Row = proposals d c R.clauses in
    elim (within new d) [ true ↦ d | false ↦ close c n R (add d new) ]

abbrev pub closed : List Row → Rule → List Row → Bool
closed c R d = within (proposals d c R.clauses) d

-- every rule in turn, and whether each came to be closed
abbrev pub run : ℕ → List Rule → List Row → List Row
run n [] c = c
run n (R ∷ Rs) c = run n Rs (close c n R c)

abbrev pub ended : ℕ → List Rule → List Row → Bool
ended n [] c = true
ended n (R ∷ Rs) c = let d : List Row = close c n R c in closed c R d && ended n Rs d

abbrev pub all_ranged : List Rule → Bool
all_ranged [] = true
all_ranged (R ∷ Rs) = ranged R.clauses && all_ranged Rs

pub within_has : (l d : List Row) (r : Row) → within l d ≡ true → Among l r → Among d r
within_has [] d r h m = absurd (has_none r m)
within_has (s ∷ l) d r h m =
    let b = and_parts (has d s) (within l d) h in
    has_cons s l r m (λ e. subst (Among d) e (T_from _ b.0)) (λ k. within_has l d r b.1 k)

-- What closing adds is in the least set.
either_in : (S : Content) (b : Bool) (l m : List Row) → Sub (Among l) S → Sub (Among m) S → Sub (Among (elim b [ true ↦ l | false ↦ m ])) S
either_in S true l m f g = f
either_in S false l m f g = g

either_has : (b : Bool) (l m : List Row) (r : Row) → Among l r → Among m r → Among (elim b [ true ↦ l | false ↦ m ]) r
either_has true l m r f g = f
either_has false l m r f g = g

pub add_in : (S : Content) (d new : List Row) → Sub (Among d) S → Sub (Among new) S → Sub (Among (add d new)) S
add_in S d [] f g = f
add_in S d (s ∷ new) f g =
    let rest : Sub (Among new) S = λ r m. g r (has_there s new r m) in
    either_in S (has d s) (add d new) (add (s ∷ d) new) (add_in S d new f rest)
    (add_in S (s ∷ d) new (λ r m. has_cons s d r m (λ e. subst S e (g s (has_here s new))) (λ k. f r k)) rest)

pub add_keeps : (d new : List Row) (r : Row) → Among d r → Among (add d new) r
add_keeps d [] r h = h
add_keeps d (s ∷ new) r h =
    either_has (has d s) (add d new) (add (s ∷ d) new) r (add_keeps d new r h) (add_keeps (s ∷ d) new r (has_there s d r h))

module _ (c : List Row) (R : Rule) where
  pub close_keeps : (n : ℕ) (d : List Row) (r : Row) → Among d r → Among (close c n R d) r
  close_keeps zero d r h = h
  close_keeps (suc n) d r h =
      let new : List Row = proposals d c R.clauses in
      either_has (within new d) d (close c n R (add d new)) r h (close_keeps n (add d new) r (add_keeps d new r h))

  pub close_in : (n : ℕ) (d : List Row) → Sub (Among d) (least R (Among c)) → Sub (Among (close c n R d)) (least R (Among c))
  close_in zero d f = f
  close_in (suc n) d f =
      let new : List Row = proposals d c R.clauses in
      either_in (least R (Among c)) (within new d) d (close c n R (add d new)) f
      (close_in n (add d new) (add_in (least R (Among c)) d new f (λ r m. Least.derived d f (proposals_from d c R.clauses r m))))

  -- where every proposal is listed, the least set is
  module _ (ok : ranged R.clauses ≡ true) (d : List Row) (keeps : Sub (Among c) (Among d)) (whole : closed c R d ≡ true) where
    pub close_all : Sub (least R (Among c)) (Among d)
    close_all s m =
        least_inside R (Among c) (Among d) keeps
        (λ r p. within_has (proposals d c R.clauses) d r whole (proposals_has d c R.clauses ok r p)) m

pub run_completes : (n : ℕ) (Rs : List Rule) (c : List Row) → all_ranged Rs ≡ true → ended n Rs c ≡ true → (r : Row)
    → (complete Rs (Among c) r ↔ Among (run n Rs c) r)
run_completes n [] c ok h r = (λ m. m, λ m. m)
run_completes n (R ∷ Rs) c ok h r =
    let d : List Row = close c n R c in
    let o = and_parts (ranged R.clauses) (all_ranged Rs) ok in
    let b = and_parts (closed c R d) (ended n Rs d) h in
    let to : Sub (least R (Among c)) (Among d) = close_all c R o.0 d (close_keeps c R n c) b.0 in
    let from : Sub (Among d) (least R (Among c)) = close_in c R n c (λ s m. Least.given m) in
    let rest = run_completes n Rs d o.1 b.1 r in (
      λ m. rest.0 (complete_same Rs (least R (Among c)) (Among d) to from r m),
      λ m. complete_same Rs (Among d) (least R (Among c)) from to r (rest.1 m),
    )

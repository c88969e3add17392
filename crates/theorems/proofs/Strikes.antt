-- Subset is the unrestricted least set with the rows of equal origins struck.
use Rattle.std.proofs.Common.{◌≡◌, ℕ, cond, ltb, ◌≢◌, ◌⊎◌, List, [], ◌∷◌, sym, refl, subst, inl, inr, arith, lit<}
use native.Mathlib.Decide.{ℕ_discrete}
use Rattle.rows.specs.declared.row.Row.{Row}
use Rattle.rows.specs.Relations.{cfg_edge, subset_base, origin_live_on_entry, subset}
use Rattle.datalog.specs.Contents.{Content, Among, Least}
use Rattle.datalog.specs.Datalog.{Rule, Proposes, least, complete}
use Rattle.datalog.proofs.Engine.{Sub, least_closed, least_inside, complete_keeps}
use Rattle.datalog.proofs.Complete.{complete_below}
use Rattle.output.specs.Variables.{Origin1, Origin2, Origin3, Point, Point1, Point2}
use Rattle.output.specs.Naive.{subset_rule}
use Rattle.output.specs.Program.{program}
use Rattle.theorems.specs.Restriction.{unrestricted_subset_rule, rules_below, SubsetStruck}
use Rattle.theorems.proofs.Programmed.{assigned}
use Rattle.theorems.proofs.Compares.{apart}

module _ (K : Content) where
  abbrev Strict : Content
  Strict = least subset_rule K

  abbrev Loose : Content
  Loose = least unrestricted_subset_rule K

  loosened : (r : Row) → Proposes subset_rule Loose K r → Proposes unrestricted_subset_rule Loose K r
  loosened r (inl (v, e, (h, u))) = inl (v, e, (h, tt))
  loosened r (inr (inl (v, e, (h, (g, u))))) = inr (inl (v, e, (h, (g, tt))))
  loosened r (inr (inr (inl (v, e, (h, (g, (x, (y, u)))))))) = inr (inr (inl (v, e, (h, (g, (x, (y, tt)))))))
  loosened r (inr (inr (inr n))) = absurd n

  pub loosen : Sub Strict Loose
  loosen r m = least_inside subset_rule K Loose (λ s k. Least.given k) (λ s p. least_closed unrestricted_subset_rule K s (loosened s p)) m

  -- A row of equal origins, or one of the restricted set.
  abbrev Or : Content
  Or r = ((r.relation ≡ 32) × (r.a ≡ r.b)) ⊎ Strict r

  other : (r : Row) → r.relation ≢ 32 → Or r → Strict r
  other r n (inl e) = absurd (n e.0)
  other r n (inr m) = m

  keep : (a b p : ℕ) → (a ≢ b → Proposes subset_rule Strict K (subset a b p)) → Or (subset a b p)
  keep a b p f = go (ℕ_discrete a b)
    where
      go : Dec (a ≡ b) → Or (subset a b p)
      go (yes e) = inl (refl, e)
      go (no d) = inr (least_closed subset_rule K (subset a b p) (f d))

  join : (a b y p : ℕ) → Or (subset a b p) → Or (subset b y p) → Or (subset a y p)
  join a b y p (inl e) g = subst (λ n. Or (subset n y p)) (sym e.1) g
  join a b y p (inr m) (inl e) = inr (subst (λ n. Strict (subset a n p)) e.1 m)
  join a b y p (inr m) (inr n) =
      keep a y p (λ d. inr (inl (assigned ((Origin1, a) ∷ (Origin2, b) ∷ (Origin3, y) ∷ (Point, p) ∷ []), refl, (m, (n, (d, tt))))))

  along : (a b p q : ℕ) → Strict (cfg_edge p q) → Strict (origin_live_on_entry a q) → Strict (origin_live_on_entry b q)
      → Or (subset a b p) → Or (subset a b q)
  along a b p q g x y (inl e) = inl e
  along a b p q g x y (inr m) =
      keep a b q (λ d. inr (inr (inl (
        assigned ((Origin1, a) ∷ (Origin2, b) ∷ (Point1, p) ∷ (Point2, q) ∷ []),
        refl,
        (m, (g, (x, (y, (d, tt))))),
      ))))

  tightened : (r : Row) → Proposes unrestricted_subset_rule Or K r → Or r
  tightened r (inl (v, e, (h, u))) =
      subst Or (sym e)
      (keep (v Origin1) (v Origin2) (v Point)
      (λ d. inl (v, refl, (other (subset_base (v Origin1) (v Origin2) (v Point)) (λ z. omega arith) h, (d, tt)))))
  tightened r (inr (inl (v, e, (h, (g, u))))) = subst Or (sym e) (join (v Origin1) (v Origin2) (v Origin3) (v Point) h g)
  tightened r (inr (inr (inl (v, e, (h, (g, (x, (y, u)))))))) =
      subst Or (sym e)
      (along (v Origin1) (v Origin2) (v Point1) (v Point2)
      (other (cfg_edge (v Point1) (v Point2)) (λ z. omega arith) g)
      (other (origin_live_on_entry (v Origin1) (v Point2)) (λ z. omega arith) x)
      (other (origin_live_on_entry (v Origin2) (v Point2)) (λ z. omega arith) y) h)
  tightened r (inr (inr (inr n))) = absurd n

  tighten : Sub Loose Or
  tighten r m = least_inside unrestricted_subset_rule K Or (λ s k. inr (Least.given k)) tightened m

  pub struck : (a b p : ℕ) → a ≢ b → Loose (subset a b p) → Strict (subset a b p)
  struck a b p n m = go (tighten (subset a b p) m)
    where
      go : Or (subset a b p) → Strict (subset a b p)
      go (inl e) = absurd (n e.1)
      go (inr k) = k

-- the rules of the relations from k on, of rules in order
abbrev rules_from : ℕ → List Rule → List Rule
rules_from k [] = []
rules_from k (R ∷ Rs) = cond (ltb R.relation k) (rules_from k Rs) (R ∷ Rs)

pub subset_struck : SubsetStruck
subset_struck rows f a b p =
    let K : Content = complete (rules_below 32 program) (Among rows) in
    let later : List Rule = rules_from 33 program in
    let r = subset a b p in (
      λ m. (loosen K r (complete_below 33 later refl (least subset_rule K) r (lit< tt) m), apart rows f r refl m),
      λ m. complete_keeps later (least subset_rule K) r (struck K a b p m.1 m.0),
    )

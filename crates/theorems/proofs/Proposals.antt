-- The proposals of clauses over listed rows, as a list: premises are matched one after the other against the rows.
use Rattle.std.proofs.Common.{◌≡◌, ℕ, Bool, true, false, cond, not, ◌&&◌, ◌||◌, eqb, ◌≢◌, ◌⊎◌, List, [], ◌∷◌, ◌++◌, sym, refl, ap, ◌∙◌, subst, inl, inr, ⊎_elim}
use Rattle.std.proofs.lemmas.Bool.{and_parts, and_from, or_cases, or_left, or_right, cases_Bool, eqb-true, eqb-false, eq-eqb, cond-true, cond-false, both_ways, not-true}
use Rattle.rows.specs.declared.row.Row.{Row}
use Rattle.rows.specs.Rows.{has}
use Rattle.rows.proofs.Order.{fields_same}
use Rattle.datalog.specs.Contents.{Among}
use Rattle.datalog.specs.Datalog.{Premise, Clause, value, instance, AllMet, Gives, SomeGives}
use Rattle.datalog.specs.Datalog.Premise.{holds, lacks, differ}
use Rattle.datalog.proofs.Truths.{T_from, T_is, T_not, not_T}
use Rattle.datalog.proofs.Engine.{has_here, has_there, has_cons, has_none}
use Rattle.theorems.proofs.Programmed.{assigned}

-- Lists of rows, and lists that a test lets through.
pub has_left : (a b : List Row) (r : Row) → Among a r → Among (a ++ b) r
has_left [] b r h = absurd (has_none r h)
has_left (s ∷ a) b r h =
    has_cons s a r h (λ e. subst (Among (s ∷ (a ++ b))) e (has_here s (a ++ b))) (λ m. has_there s (a ++ b) r (has_left a b r m))

pub has_right : (a b : List Row) (r : Row) → Among b r → Among (a ++ b) r
has_right [] b r h = h
has_right (s ∷ a) b r h = has_there s (a ++ b) r (has_right a b r h)

pub has_either : (a b : List Row) (r : Row) → Among (a ++ b) r → Among a r ⊎ Among b r
has_either [] b r h = inr h
has_either (s ∷ a) b r h =
    has_cons s (a ++ b) r h (λ e. inl (subst (Among (s ∷ a)) e (has_here s a)))
    (λ m. ⊎_elim (λ k. inl (has_there s a r k)) inr (has_either a b r m))

abbrev pub when : Bool → List Row → List Row
when b l = elim b [ true ↦ l | false ↦ [] ]

pub when_true : (b : Bool) (l : List Row) (r : Row) → b ≡ true → Among l r → Among (when b l) r
when_true true l r e h = h
when_true false l r e h = absurd (both_ways false refl e)

pub was_true : (b : Bool) (l : List Row) (r : Row) → Among (when b l) r → (b ≡ true) × Among l r
was_true true l r h = (refl, h)
was_true false l r h = absurd (has_none r h)

-- what a list gives, row by row
abbrev pub over : (Row → List Row) → List Row → List Row
over g [] = []
over g (r ∷ rs) = g r ++ over g rs

over_has : (g : Row → List Row) (d : List Row) (s r : Row) → Among d s → Among (g s) r → Among (over g d) r
over_has g [] s r h k = absurd (has_none s h)
over_has g (t ∷ d) s r h k =
    has_cons t d s h (λ e. has_left (g t) (over g d) r (subst (λ u. Among (g u) r) (sym e) k))
    (λ m. has_right (g t) (over g d) r (over_has g d s r m k))

over_from : (g : Row → List Row) (d : List Row) (r : Row) → Among (over g d) r → (s : Row) × Among d s × Among (g s) r
over_from g [] r h = absurd (has_none r h)
over_from g (t ∷ d) r h =
    ⊎_elim (λ m. (t, has_here t d, m)) (λ m. let w = over_from g d r m in (w.0, has_there t d w.0 w.1, w.2)) (has_either (g t) (over g d) r h)

-- Values of variables, found so far; variable 0 has its value from the start.
abbrev Found : Type 0
Found = List (ℕ × ℕ)

abbrev bound : Found → ℕ → Bool
bound [] n = eqb n 0
bound ((x, u) ∷ e) n = eqb n x || bound e n

-- a code at a variable: the value it has, or a value for it
abbrev fit : ℕ → ℕ → Found → (Found → List Row) → List Row
fit x u e k = elim (bound e x) [ true ↦ when (eqb (value (assigned e) x) u) (k e) | false ↦ k ((x, u) ∷ e) ]

abbrev fits : Row → Row → Found → (Found → List Row) → List Row
fits s r e k =
    when (eqb r.relation s.relation)
    (fit s.a r.a e (λ f. fit s.b r.b f (λ g. fit s.c r.c g k)))

abbrev search : List Row → List Premise → Found → (Found → List Row) → List Row
search d [] e k = k e
search d (holds s ∷ ps) e k = over (λ r. fits s r e (λ f. search d ps f k)) d
search d (lacks s ∷ ps) e k = search d ps e k
search d (differ x y ∷ ps) e k = search d ps e k

abbrev all_met : List Row → List Row → (ℕ → ℕ) → List Premise → Bool
all_met d c v [] = true
all_met d c v (holds s ∷ ps) = has d (instance v s) && all_met d c v ps
all_met d c v (lacks s ∷ ps) = not (has c (instance v s)) && all_met d c v ps
all_met d c v (differ x y ∷ ps) = not (eqb (value v x) (value v y)) && all_met d c v ps

abbrev head_of : List Row → List Row → Clause → Found → List Row
head_of d c q e = when (all_met d c (assigned e) q.body) (instance (assigned e) q.head ∷ [])

-- the rows d are held, and denials are taken from c
abbrev pub proposals : List Row → List Row → List Clause → List Row
proposals d c [] = []
proposals d c (q ∷ qs) = search d q.body [] (head_of d c q) ++ proposals d c qs

-- What is listed is proposed: the body was tested.
fit_from : (x u : ℕ) (e : Found) (k : Found → List Row) (r : Row) → Among (fit x u e k) r → (f : Found) × Among (k f) r
fit_from x u e k r h = go (bound e x) h
  where
    go : (b : Bool) → Among (elim b [ true ↦ when (eqb (value (assigned e) x) u) (k e) | false ↦ k ((x, u) ∷ e) ]) r → (f : Found) × Among (k f) r
    go true m = (e, (was_true (eqb (value (assigned e) x) u) (k e) r m).1)
    go false m = ((x, u) ∷ e, m)

fits_from : (s t : Row) (e : Found) (k : Found → List Row) (r : Row) → Among (fits s t e k) r → (f : Found) × Among (k f) r
fits_from s t e k r h =
    let a = fit_from s.a t.a e (λ f. fit s.b t.b f (λ g. fit s.c t.c g k)) r (was_true _ _ r h).1 in
    let b = fit_from s.b t.b a.0 (λ g. fit s.c t.c g k) r a.1 in
    fit_from s.c t.c b.0 k r b.1

search_from : (d : List Row) (ps : List Premise) (e : Found) (k : Found → List Row) (r : Row) → Among (search d ps e k) r → (f : Found) × Among (k f) r
search_from d [] e k r h = (e, h)
search_from d (holds s ∷ ps) e k r h =
    let w = over_from (λ t. fits s t e (λ f. search d ps f k)) d r h in
    let v = fits_from s w.0 e (λ f. search d ps f k) r w.2 in
    search_from d ps v.0 k r v.1
search_from d (lacks s ∷ ps) e k r h = search_from d ps e k r h
search_from d (differ x y ∷ ps) e k r h = search_from d ps e k r h

met_from : (d c : List Row) (v : ℕ → ℕ) (ps : List Premise) → all_met d c v ps ≡ true → AllMet (Among d) (Among c) v ps
met_from d c v [] h = tt
met_from d c v (holds s ∷ ps) h =
    let a = and_parts (has d (instance v s)) (all_met d c v ps) h in (T_from _ a.0, met_from d c v ps a.1)
met_from d c v (lacks s ∷ ps) h =
    let a = and_parts (not (has c (instance v s))) (all_met d c v ps) h in (T_not _ (not-true _ a.0), met_from d c v ps a.1)
met_from d c v (differ x y ∷ ps) h =
    let a = and_parts (not (eqb (value v x) (value v y))) (all_met d c v ps) h in (eqb-false _ _ (not-true _ a.0), met_from d c v ps a.1)

pub proposals_from : (d c : List Row) (qs : List Clause) (r : Row) → Among (proposals d c qs) r → SomeGives (Among d) (Among c) qs r
proposals_from d c [] r h = absurd (has_none r h)
proposals_from d c (q ∷ qs) r h =
    ⊎_elim (λ m. inl (one m)) (λ m. inr (proposals_from d c qs r m)) (has_either (search d q.body [] (head_of d c q)) (proposals d c qs) r h)
  where
    one : Among (search d q.body [] (head_of d c q)) r → Gives (Among d) (Among c) q r
    one m =
        let w = search_from d q.body [] (head_of d c q) r m in
        let v = was_true (all_met d c (assigned w.0) q.body) (instance (assigned w.0) q.head ∷ []) r w.1 in
        (assigned w.0, has_cons (instance (assigned w.0) q.head) [] r v.1 sym (λ i. absurd (has_none r i)), met_from d c (assigned w.0) q.body v.0)

-- The test of a clause: each of its variables stands in a premise that rows are held.
abbrev pub stands : ℕ → List Premise → Bool
stands n [] = eqb n 0
stands n (holds s ∷ ps) = eqb n s.a || (eqb n s.b || (eqb n s.c || stands n ps))
stands n (lacks s ∷ ps) = stands n ps
stands n (differ x y ∷ ps) = stands n ps

abbrev pub row_stands : Row → List Premise → Bool
row_stands s ps = stands s.a ps && (stands s.b ps && stands s.c ps)

abbrev pub all_stand : List Premise → List Premise → Bool
all_stand [] qs = true
all_stand (holds s ∷ ps) qs = row_stands s qs && all_stand ps qs
all_stand (lacks s ∷ ps) qs = row_stands s qs && all_stand ps qs
all_stand (differ x y ∷ ps) qs = (stands x qs && stands y qs) && all_stand ps qs

abbrev pub ranged : List Clause → Bool
ranged [] = true
ranged (q ∷ qs) = (row_stands q.head q.body && all_stand q.body q.body) && ranged qs

-- What is proposed is listed: the search follows the assignment.
module _ (w : ℕ → ℕ) where
  abbrev Agrees : Found → Type 0
  Agrees e = (n : ℕ) → bound e n ≡ true → value (assigned e) n ≡ value w n

  abbrev More : Found → Found → Type 0
  More e f = (n : ℕ) → bound e n ≡ true → bound f n ≡ true

  first_agrees : Agrees []
  first_agrees n h = ap (value (λ k. 0)) (eqb-true n 0 h) ∙ ap (value w) (sym (eqb-true n 0 h))

  -- a new value
  more_agrees : (x u : ℕ) (e : Found) → u ≡ value w x → Agrees e → Agrees ((x, u) ∷ e)
  more_agrees x u e is a n h =
      ⊎_elim (λ t. here (eqb-true n x t) t) (λ f. there f (⊎_elim (λ t. absurd (both_ways _ f t)) (λ b. b) (or_cases (eqb n x) (bound e n) h))) (cases_Bool (eqb n x))
    where
      zero_is : eqb n 0 ≡ true → (v : ℕ → ℕ) → value v n ≡ 0
      zero_is z v = cond-true (eqb n 0) 0 (v n) z

      here : n ≡ x → eqb n x ≡ true → value (assigned ((x, u) ∷ e)) n ≡ value w n
      here i t =
          ⊎_elim (λ z. zero_is z (assigned ((x, u) ∷ e)) ∙ sym (zero_is z w))
          (λ z. cond-false (eqb n 0) 0 (assigned ((x, u) ∷ e) n) z ∙ cond-true (eqb n x) u (assigned e n) t ∙ is ∙ ap (value w) (sym i))
          (cases_Bool (eqb n 0))

      there : eqb n x ≡ false → bound e n ≡ true → value (assigned ((x, u) ∷ e)) n ≡ value w n
      there f b = ap (λ m. cond (eqb n 0) 0 m) (cond-false (eqb n x) u (assigned e n) f) ∙ a n b

  abbrev Goes : (Found → Type 0) → Found → (Found → List Row) → Row → Type 0
  Goes B e k r = (f : Found) → Agrees f → More e f → B f → Among (k f) r

  fit_has : (x u : ℕ) (e : Found) (k : Found → List Row) (r : Row) → Agrees e → u ≡ value w x
      → Goes (λ f. bound f x ≡ true) e k r → Among (fit x u e k) r
  fit_has x u e k r a is go = by (bound e x) refl
    where
      by : (b : Bool) → bound e x ≡ b → Among (elim b [ true ↦ when (eqb (value (assigned e) x) u) (k e) | false ↦ k ((x, u) ∷ e) ]) r
      by true b = when_true (eqb (value (assigned e) x) u) (k e) r (eq-eqb _ _ (a x b ∙ sym is)) (go e a (λ n h. h) b)
      by false b =
          go ((x, u) ∷ e) (more_agrees x u e is a) (λ n h. or_right (eqb n x) (bound e n) h) (or_left (eqb x x) (bound e x) (eq-eqb x x refl))

  abbrev Binds : Row → Found → Type 0
  Binds s f = (bound f s.a ≡ true) × (bound f s.b ≡ true) × (bound f s.c ≡ true)

  fits_has : (s : Row) (e : Found) (k : Found → List Row) (r : Row) → Agrees e → Goes (Binds s) e k r → Among (fits s (instance w s) e k) r
  fits_has s e k r a go =
      when_true (eqb s.relation s.relation) _ r (eq-eqb s.relation s.relation refl)
      (fit_has s.a (value w s.a) e _ r a refl (λ f af mf bf.
      fit_has s.b (value w s.b) f _ r af refl (λ g ag mg bg.
      fit_has s.c (value w s.c) g k r ag refl (λ i ai mi bi.
      go i ai (λ n h. mi n (mg n (mf n h))) (mi s.a (mg s.a bf), mi s.b bg, bi)))))

  abbrev BindsAll : List Premise → Found → Type 0
  BindsAll ps f = (n : ℕ) → stands n ps ≡ true → bound f n ≡ true

  zero_bound : (e : Found) (n : ℕ) → eqb n 0 ≡ true → bound e n ≡ true
  zero_bound [] n z = z
  zero_bound ((x, u) ∷ e) n z = or_right (eqb n x) (bound e n) (zero_bound e n z)

  at_place : (f : Found) (n x : ℕ) → bound f x ≡ true → eqb n x ≡ true → bound f n ≡ true
  at_place f n x b e = subst (λ m. bound f m ≡ true) (sym (eqb-true n x e)) b

  search_has : (d c : List Row) (ps : List Premise) (e : Found) (k : Found → List Row) (r : Row) → Agrees e → AllMet (Among d) (Among c) w ps
      → Goes (BindsAll ps) e k r → Among (search d ps e k) r
  search_has d c [] e k r a m go = go e a (λ n h. h) (zero_bound e)
  search_has d c (holds s ∷ ps) e k r a m go =
      over_has (λ t. fits s t e (λ f. search d ps f k)) d (instance w s) r m.0
      (fits_has s e (λ f. search d ps f k) r a (λ f af mf bf.
      search_has d c ps f k r af m.1 (λ g ag mg bg.
      go g ag (λ n h. mg n (mf n h)) (λ n h.
      ⊎_elim (at_place g n s.a (mg s.a bf.0))
      (λ h1. ⊎_elim (at_place g n s.b (mg s.b bf.1))
      (λ h2. ⊎_elim (at_place g n s.c (mg s.c bf.2)) (bg n) (or_cases (eqb n s.c) (stands n ps) h2))
      (or_cases (eqb n s.b) (eqb n s.c || stands n ps) h1))
      (or_cases (eqb n s.a) (eqb n s.b || (eqb n s.c || stands n ps)) h)))))
  search_has d c (lacks s ∷ ps) e k r a m go = search_has d c ps e k r a m.1 go
  search_has d c (differ x y ∷ ps) e k r a m go = search_has d c ps e k r a m.1 go

  -- where every variable is found, the instances are those of the assignment
  module _ (qs : List Premise) (f : Found) (a : Agrees f) (b : BindsAll qs f) where
    value_is : (n : ℕ) → stands n qs ≡ true → value (assigned f) n ≡ value w n
    value_is n h = a n (b n h)

    instance_is : (s : Row) → row_stands s qs ≡ true → instance (assigned f) s ≡ instance w s
    instance_is s h =
        let x = and_parts (stands s.a qs) (stands s.b qs && stands s.c qs) h in
        let y = and_parts (stands s.b qs) (stands s.c qs) x.1 in
        fields_same (instance (assigned f) s) (instance w s) refl (value_is s.a x.0) (value_is s.b y.0) (value_is s.c y.1)

    met_has : (d c : List Row) (ps : List Premise) → all_stand ps qs ≡ true → AllMet (Among d) (Among c) w ps → all_met d c (assigned f) ps ≡ true
    met_has d c [] h m = refl
    met_has d c (holds s ∷ ps) h m =
        let x = and_parts (row_stands s qs) (all_stand ps qs) h in
        and_from (has d (instance (assigned f) s)) (all_met d c (assigned f) ps) (ap (has d) (instance_is s x.0) ∙ T_is _ m.0) (met_has d c ps x.1 m.1)
    met_has d c (lacks s ∷ ps) h m =
        let x = and_parts (row_stands s qs) (all_stand ps qs) h in
        and_from (not (has c (instance (assigned f) s))) (all_met d c (assigned f) ps) (ap (λ t. not (has c t)) (instance_is s x.0) ∙ ap not (not_T _ m.0)) (met_has d c ps x.1 m.1)
    met_has d c (differ x y ∷ ps) h m =
        let p = and_parts (stands x qs && stands y qs) (all_stand ps qs) h in
        let q = and_parts (stands x qs) (stands y qs) p.0 in
        let n : value (assigned f) x ≢ value (assigned f) y = λ i. m.0 (sym (value_is x q.0) ∙ i ∙ value_is y q.1) in
        and_from (not (eqb (value (assigned f) x) (value (assigned f) y))) (all_met d c (assigned f) ps)
        (ap not (⊎_elim (λ t. absurd (n (eqb-true _ _ t))) (λ t. t) (cases_Bool (eqb (value (assigned f) x) (value (assigned f) y))))) (met_has d c ps p.1 m.1)

pub proposals_has : (d c : List Row) (qs : List Clause) → ranged qs ≡ true → (r : Row) → SomeGives (Among d) (Among c) qs r → Among (proposals d c qs) r
proposals_has d c [] h r p = absurd p
proposals_has d c (q ∷ qs) h r (inl (w, e, m)) =
    let a = and_parts (row_stands q.head q.body && all_stand q.body q.body) (ranged qs) h in
    let b = and_parts (row_stands q.head q.body) (all_stand q.body q.body) a.0 in
    has_left (search d q.body [] (head_of d c q)) (proposals d c qs) r
    (search_has w d c q.body [] (head_of d c q) r (first_agrees w) m (λ f af mf bf.
    when_true (all_met d c (assigned f) q.body) (instance (assigned f) q.head ∷ []) r (met_has w q.body f af bf d c q.body b.1 m)
    (subst (Among (instance (assigned f) q.head ∷ [])) (instance_is w q.body f af bf q.head b.0 ∙ sym e)
    (has_here (instance (assigned f) q.head) []))))
proposals_has d c (q ∷ qs) h r (inr p) =
    has_right (search d q.body [] (head_of d c q)) (proposals d c qs) r
    (proposals_has d c qs (and_parts (row_stands q.head q.body && all_stand q.body q.body) (ranged qs) h).1 r p)

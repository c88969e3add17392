-- Closing comes to an end: the least sets and the completion of listed rows are lists.
use Rattle.std.proofs.Common.{◌≡◌, ℕ, zero, suc, ◌+◌, ◌<◌, ◌≤◌, Bool, true, false, cond, ◌&&◌, ◌||◌, eqb, ◌⊎◌, List, [], ◌∷◌, ◌++◌, sym, refl, ap, ◌∙◌, subst, inl, inr, ⊎_elim, arith}
use Rattle.std.proofs.lemmas.Bool.{and_parts, and_from, and_cases, or_cases, or_parts, cases_Bool, cases_eq, eqb-true, cond-true, cond-false, cond_both, both_ways}
use Rattle.rows.specs.declared.row.Row.{Row}
use Rattle.rows.specs.Rows.{has}
use Rattle.rows.specs.Relations.{row3}
use Rattle.rows.proofs.Order.{fields_same}
use Rattle.datalog.specs.Contents.{Content, Among, Least}
use Rattle.datalog.specs.Datalog.{Premise, Clause, Rule, value, instance, AllMet, SomeGives, least, complete, clauses_read, stratified}
use Rattle.datalog.specs.Datalog.Premise.{holds, lacks, differ}
use Rattle.datalog.proofs.Truths.{T_from, T_is, T_not}
use Rattle.datalog.proofs.Engine.{Sub, has_here, has_there, has_cons, has_none, some_relation, complete_same}
use Rattle.datalog.proofs.Complete.{strata}
use Rattle.output.specs.Program.{find_rule, program, rule_of}
use Rattle.output.specs.Ruled.{program_stratified, rule_reads}
use Rattle.theorems.specs.Numbers.{Lists, Distinct}
use Rattle.theorems.specs.Definitions.{LeastListed, CompletionListed, DerivedNumbered}
use Rattle.theorems.proofs.Proposals.{has_left, has_right, proposals, proposals_from, stands, row_stands, all_stand, ranged}
use Rattle.theorems.proofs.Runs.{within, add, add_in, add_keeps, close, closed, close_keeps, close_in, close_all, all_ranged}

-- All rows of a relation with codes below w.
abbrev line : ℕ → ℕ → ℕ → ℕ → List Row
line k a b zero = []
line k a b (suc n) = row3 k a b n ∷ line k a b n

abbrev plane : ℕ → ℕ → ℕ → ℕ → List Row
plane k w a zero = []
plane k w a (suc n) = line k a n w ++ plane k w a n

abbrev grid : ℕ → ℕ → ℕ → List Row
grid k w zero = []
grid k w (suc n) = plane k w n w ++ grid k w n

line_has : (k a b n x : ℕ) → x < n → Among (line k a b n) (row3 k a b x)
line_has k a b zero x h = absurd (omega arith)
line_has k a b (suc n) x h =
    ⊎_elim
    (λ e. subst (λ y. Among (line k a b (suc n)) (row3 k a b y)) (sym e) (has_here (row3 k a b n) (line k a b n)))
    (λ d. has_there (row3 k a b n) (line k a b n) (row3 k a b x) (line_has k a b n x (omega arith)))
    (cases_eq x n)

plane_has : (k w a n y x : ℕ) → y < n → x < w → Among (plane k w a n) (row3 k a y x)
plane_has k w a zero y x h g = absurd (omega arith)
plane_has k w a (suc n) y x h g =
    ⊎_elim
    (λ e. has_left (line k a n w) (plane k w a n) (row3 k a y x) (subst (λ z. Among (line k a n w) (row3 k a z x)) (sym e) (line_has k a n w x g)))
    (λ d. has_right (line k a n w) (plane k w a n) (row3 k a y x) (plane_has k w a n y x (omega arith) g))
    (cases_eq y n)

grid_has : (k w n z y x : ℕ) → z < n → y < w → x < w → Among (grid k w n) (row3 k z y x)
grid_has k w zero z y x h f g = absurd (omega arith)
grid_has k w (suc n) z y x h f g =
    ⊎_elim
    (λ e. has_left (plane k w n w) (grid k w n) (row3 k z y x) (subst (λ u. Among (plane k w n w) (row3 k u y x)) (sym e) (plane_has k w n w y x f g)))
    (λ d. has_right (plane k w n w) (grid k w n) (row3 k z y x) (grid_has k w n z y x (omega arith) f g))
    (cases_eq z n)

-- Codes below w.
abbrev Small : ℕ → Content
Small w r = (r.a < w) × (r.b < w) × (r.c < w)

-- the sum of all codes
abbrev weight : List Row → ℕ
weight [] = 0
weight (r ∷ rows) = r.a + r.b + r.c + weight rows

weighs : (rows : List Row) (r : Row) → Among rows r → r.a + r.b + r.c ≤ weight rows
weighs [] r h = absurd (has_none r h)
weighs (s ∷ rows) r h =
    has_cons s rows r h
    (λ e. let f : s.a + s.b + s.c ≡ r.a + r.b + r.c = ap (λ (t : Row). t.a + t.b + t.c) e in omega arith)
    (λ m. let i = weighs rows r m in omega arith)

-- A variable that stands in the body has a code of a row held.
standing : (w : ℕ) → 0 < w → (d : List Row) → ((r : Row) → Among d r → Small w r) → (N : Content) (v : ℕ → ℕ) (ps : List Premise) → AllMet (Among d) N v ps
    → (n : ℕ) → stands n ps ≡ true → value v n < w
standing w p d f N v [] m n h = let e = cond-true (eqb n 0) 0 (v n) h in omega arith
standing w p d f N v (holds s ∷ ps) m n h =
    let i = f (instance v s) m.0 in
    ⊎_elim (λ e. at s.a i.0 e)
    (λ g. ⊎_elim (λ e. at s.b i.1 e)
    (λ u. ⊎_elim (λ e. at s.c i.2 e) (standing w p d f N v ps m.1 n) (or_cases (eqb n s.c) (stands n ps) u))
    (or_cases (eqb n s.b) (eqb n s.c || stands n ps) g))
    (or_cases (eqb n s.a) (eqb n s.b || (eqb n s.c || stands n ps)) h)
  where
    at : (x : ℕ) → value v x < w → eqb n x ≡ true → value v n < w
    at x l e = subst (λ y. value v y < w) (sym (eqb-true n x e)) l
standing w p d f N v (lacks s ∷ ps) m n h = standing w p d f N v ps m.1 n h
standing w p d f N v (differ x y ∷ ps) m n h = standing w p d f N v ps m.1 n h

some_small : (w : ℕ) → 0 < w → (d : List Row) → ((r : Row) → Among d r → Small w r) → (N : Content) (qs : List Clause) → ranged qs ≡ true
    → (r : Row) → SomeGives (Among d) N qs r → Small w r
some_small w p d f N [] ok r h = absurd h
some_small w p d f N (q ∷ qs) ok r (inl (v, e, m)) =
    let a = and_parts (row_stands q.head q.body && all_stand q.body q.body) (ranged qs) ok in
    let b = and_parts (row_stands q.head q.body) (all_stand q.body q.body) a.0 in
    let x = and_parts (stands q.head.a q.body) (stands q.head.b q.body && stands q.head.c q.body) b.0 in
    let y = and_parts (stands q.head.b q.body) (stands q.head.c q.body) x.1 in
    let at = standing w p d f N v q.body m in
    subst (Small w) (sym e) (at q.head.a x.0, at q.head.b y.0, at q.head.c y.1)
some_small w p d f N (q ∷ qs) ok r (inr h) =
    some_small w p d f N qs (and_parts (row_stands q.head q.body && all_stand q.body q.body) (ranged qs) ok).1 r h

-- How many rows of a list are lacking.
abbrev lacking : List Row → List Row → ℕ
lacking [] d = 0
lacking (r ∷ u) d = cond (has d r) (lacking u d) (suc (lacking u d))

here_less : (b c : Bool) (m n : ℕ) → m ≤ n → (c ≡ true → b ≡ true) → cond b m (suc m) ≤ cond c n (suc n)
here_less true true m n h f = h
here_less true false m n h f = omega arith
here_less false true m n h f = absurd (both_ways false refl (f refl))
here_less false false m n h f = omega arith

here_fewer : (b c : Bool) (m n : ℕ) → m ≤ n → b ≡ true → c ≡ false → suc (cond b m (suc m)) ≤ cond c n (suc n)
here_fewer true true m n h e f = absurd (both_ways true f refl)
here_fewer true false m n h e f = omega arith
here_fewer false c m n h e f = absurd (both_ways false refl e)

there_fewer : (b c : Bool) (m n : ℕ) → suc m ≤ n → (c ≡ true → b ≡ true) → suc (cond b m (suc m)) ≤ cond c n (suc n)
there_fewer true true m n h f = h
there_fewer true false m n h f = omega arith
there_fewer false true m n h f = absurd (both_ways false refl (f refl))
there_fewer false false m n h f = omega arith

lacking_less : (u d e : List Row) → Sub (Among d) (Among e) → lacking u e ≤ lacking u d
lacking_less [] d e f = omega arith
lacking_less (r ∷ u) d e f = here_less (has e r) (has d r) (lacking u e) (lacking u d) (lacking_less u d e f) (λ h. T_is _ (f r (T_from _ h)))

lacking_fewer : (u d e : List Row) → Sub (Among d) (Among e) → (s : Row) → Among u s → has d s ≡ false → Among e s → suc (lacking u e) ≤ lacking u d
lacking_fewer [] d e f s m n h = absurd (has_none s m)
lacking_fewer (r ∷ u) d e f s m n h =
    has_cons r u s m
    (λ i. here_fewer (has e r) (has d r) (lacking u e) (lacking u d) (lacking_less u d e f) (ap (has e) i ∙ T_is _ h) (ap (has d) i ∙ n))
    (λ k. there_fewer (has e r) (has d r) (lacking u e) (lacking u d) (lacking_fewer u d e f s k n h) (λ g. T_is _ (f r (T_from _ g))))

none_lacking : (u d : List Row) → lacking u d ≤ 0 → (s : Row) → Among u s → Among d s
none_lacking [] d h s m = absurd (has_none s m)
none_lacking (r ∷ u) d h s m =
    ⊎_elim
    (λ e. has_cons r u s m (λ i. subst (Among d) i (T_from _ e))
    (λ k. none_lacking u d (subst (λ n. n ≤ 0) (cond-true (has d r) (lacking u d) (suc (lacking u d)) e) h) s k))
    (λ e. absurd (let z = cond-false (has d r) (lacking u d) (suc (lacking u d)) e in omega arith))
    (cases_Bool (has d r))

-- Lists inside one another, and rows that are left out.
within_all : (l d : List Row) → Sub (Among l) (Among d) → within l d ≡ true
within_all [] d f = refl
within_all (r ∷ l) d f = and_from (has d r) (within l d) (T_is _ (f r (has_here r l))) (within_all l d (λ s m. f s (has_there r l s m)))

left_out : (l d : List Row) → within l d ≡ false → (s : Row) × Among l s × (has d s ≡ false)
left_out [] d h = absurd (both_ways true h refl)
left_out (r ∷ l) d h =
    ⊎_elim (λ e. (r, has_here r l, e)) (λ e. let w = left_out l d e in (w.0, has_there r l w.0 w.1, w.2)) (and_cases (has d r) (within l d) h)

add_has : (d new : List Row) (s : Row) → Among new s → Among (add d new) s
add_has d [] s m = absurd (has_none s m)
add_has d (r ∷ new) s m = by (has d r) refl (add_has d new s) (add_has (r ∷ d) new s)
  where
    by : (b : Bool) → has d r ≡ b → (Among new s → Among (add d new) s) → (Among new s → Among (add (r ∷ d) new) s)
        → Among (elim b [ true ↦ add d new | false ↦ add (r ∷ d) new ]) s
    by true e f g = has_cons r new s m (λ i. add_keeps d new s (subst (Among d) i (T_from _ e))) f
    by false e f g = has_cons r new s m (λ i. add_keeps (r ∷ d) new s (subst (Among (r ∷ d)) i (has_here r d))) g

-- Closing under a rule, with fuel enough.
module _ (c : List Row) (R : Rule) (ok : ranged R.clauses ≡ true) (k : ℕ) (heads : clauses_read k R.clauses ≡ true) where
  wide : ℕ
  wide = suc (weight c)

  abbrev Fits : Content
  Fits r = Small wide r × (Among c r ⊎ (r.relation ≡ k))

  abbrev all_rows : List Row
  all_rows = c ++ grid k wide wide

  fits_all : (r : Row) → Fits r → Among all_rows r
  fits_all r f =
      ⊎_elim (has_left c (grid k wide wide) r)
      (λ e. has_right c (grid k wide wide) r
      (subst (Among (grid k wide wide)) (fields_same (row3 k r.a r.b r.c) r (sym e) refl refl refl)
      (grid_has k wide wide r.a r.b r.c f.0.0 f.0.1 f.0.2))) f.1

  proposed_fits : (d : List Row) → Sub (Among d) Fits → Sub (Among (proposals d c R.clauses)) Fits
  unfolding wide
  proposed_fits d f r m =
      let p = proposals_from d c R.clauses r m in (
        some_small wide (omega arith) d (λ s h. (f s h).0) (Among c) R.clauses ok r p,
        inr (some_relation k (Among d) (Among c) R.clauses heads r p),
      )

  closes : (n : ℕ) (d : List Row) → Sub (Among d) Fits → lacking all_rows d ≤ n → closed c R (close c n R d) ≡ true
  closes zero d f h = within_all (proposals d c R.clauses) d (λ r m. none_lacking all_rows d h r (fits_all r (proposed_fits d f r m)))
  closes (suc n) d f h = by (within (proposals d c R.clauses) d) refl (closes n)
    where
      by : (b : Bool) → within (proposals d c R.clauses) d ≡ b
          → ((e : List Row) → Sub (Among e) Fits → lacking all_rows e ≤ n → closed c R (close c n R e) ≡ true)
          → closed c R (elim b [ true ↦ d | false ↦ close c n R (add d (proposals d c R.clauses)) ]) ≡ true
      by true e again = e
      by false e again =
          let l : List Row = proposals d c R.clauses in
          let w = left_out l d e in
          let less = lacking_fewer all_rows d (add d l) (add_keeps d l) w.0 (fits_all w.0 (proposed_fits d f w.0 w.1)) w.2 (add_has d l w.0 w.1) in
          again (add d l) (add_in Fits d l f (proposed_fits d f)) (omega arith)

  first_fits : Sub (Among c) Fits
  unfolding wide
  first_fits r m = let i = weighs c r m in ((omega arith, omega arith, omega arith), inl m)

  pub least_listed_by : (d : List Row) × Lists d (least R (Among c))
  least_listed_by =
      let n = lacking all_rows c in
      let d : List Row = close c n R c in (
        d,
        λ r. (
          close_all c R ok d (close_keeps c R n c) (closes n c first_fits (omega arith)) r,
          close_in c R n c (λ s m. Least.given m) r,
        ),
      )

complete_listed : (low : ℕ) (Rs : List Rule) → stratified low Rs ≡ true → all_ranged Rs ≡ true → (c : List Row) → (d : List Row) × Lists d (complete Rs (Among c))
complete_listed low [] w ok c = (c, λ r. (λ m. m, λ m. m))
complete_listed low (R ∷ Rs) w ok c =
    let st = strata low R Rs w in
    let o = and_parts (ranged R.clauses) (all_ranged Rs) ok in
    let d = least_listed_by c R o.0 R.relation st.read in
    let e = complete_listed (suc R.relation) Rs st.later o.1 d.0 in
    let to : Sub (least R (Among c)) (Among d.0) = λ r. (d.1 r).0 in
    let from : Sub (Among d.0) (least R (Among c)) = λ r. (d.1 r).1 in (
      e.0,
      λ r. (
        λ m. (e.1 r).0 (complete_same Rs (least R (Among c)) (Among d.0) to from r m),
        λ m. complete_same Rs (Among d.0) (least R (Among c)) from to r ((e.1 r).1 m),
      ),
    )

pub completion_listed : CompletionListed
completion_listed rows = complete_listed 18 program program_stratified refl rows

find_ranged : (k : ℕ) (Rs : List Rule) → all_ranged Rs ≡ true → ranged (find_rule k Rs).clauses ≡ true
find_ranged k [] ok = refl
find_ranged k (R ∷ Rs) ok =
    let o = and_parts (ranged R.clauses) (all_ranged Rs) ok in
    cond_both (eqb k R.relation) R (find_rule k Rs) (λ Q. ranged Q.clauses ≡ true) (λ _. o.0) (λ _. find_ranged k Rs o.1)

rule_ranged : (k : ℕ) → ranged (rule_of k).clauses ≡ true
unfolding rule_of
rule_ranged k = find_ranged k program refl

pub least_listed : LeastListed
least_listed rows k = least_listed_by rows (rule_of k) (rule_ranged k) k (rule_reads k)

-- The rows of a list that another lacks, each once.
abbrev pick : List Row → List Row → List Row
pick [] c = []
pick (r ∷ l) c = cond (has c r || has (pick l c) r) (pick l c) (r ∷ pick l c)

pick_distinct : (l c : List Row) → Distinct (pick l c)
pick_distinct [] c = tt
pick_distinct (r ∷ l) c =
    cond_both (has c r || has (pick l c) r) (pick l c) (r ∷ pick l c) Distinct (λ _. pick_distinct l c)
    (λ e. (T_not _ (or_parts (has c r) (has (pick l c) r) e).1, pick_distinct l c))

pick_from : (l c : List Row) (r : Row) → Among (pick l c) r → Among l r × (¬ Among c r)
pick_from [] c r h = absurd (has_none r h)
pick_from (s ∷ l) c r h =
    cond_both (has c s || has (pick l c) s) (pick l c) (s ∷ pick l c) (λ x. Among x r → Among (s ∷ l) r × (¬ Among c r))
    (λ _ m. let w = pick_from l c r m in (has_there s l r w.0, w.1))
    (λ e m. has_cons s (pick l c) r m
    (λ i. (subst (Among (s ∷ l)) i (has_here s l), subst (λ t. ¬ Among c t) i (T_not _ (or_parts (has c s) (has (pick l c) s) e).0)))
    (λ k. let w = pick_from l c r k in (has_there s l r w.0, w.1)))
    h

pick_has : (l c : List Row) (r : Row) → Among l r → ¬ Among c r → Among (pick l c) r
pick_has [] c r h n = absurd (has_none r h)
pick_has (s ∷ l) c r h n =
    cond_both (has c s || has (pick l c) s) (pick l c) (s ∷ pick l c) (λ x. Among x r)
    (λ e. has_cons s l r h
    (λ i. ⊎_elim (λ g. absurd (n (subst (Among c) i (T_from _ g)))) (λ g. subst (Among (pick l c)) i (T_from _ g)) (or_cases (has c s) (has (pick l c) s) e))
    (λ k. pick_has l c r k n))
    (λ e. has_cons s l r h (λ i. subst (Among (s ∷ pick l c)) i (has_here s (pick l c))) (λ k. has_there s (pick l c) r (pick_has l c r k n)))

pub derived_numbered : DerivedNumbered
derived_numbered rows =
    let w = completion_listed rows in (
      _,
      record {
        rows = pick w.0 rows;
        distinct = pick_distinct w.0 rows;
        lists = λ r. (
          λ m. pick_has w.0 rows r ((w.1 r).0 m.0) m.1,
          λ m. let v = pick_from w.0 rows r m in ((w.1 r).1 v.0, v.1),
        );
        many = refl;
      },
    )

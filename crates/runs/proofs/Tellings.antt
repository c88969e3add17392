-- A fact in atoms is known by its row: the law of atoms carried to facts, and the promise told in atoms.
use Rattle.std.proofs.Common.{◌≡◌, ℕ, ◌<◌, cond, eqb, ◌⊎◌, List, [], ◌∷◌, ◌++◌, Some, None, Ok, Option, sym, refl, ap, ◌∙◌, subst, inl, inr, ⊎_elim, arith}
use Rattle.rows.specs.declared.row.Row.{Row}
use Rattle.rows.specs.declared.answer.Outcome.{Outcome}
use Rattle.rows.specs.Tables.{Meaning, Lawful}
use Rattle.datalog.specs.Contents.{Among}
use Rattle.datalog.proofs.Closes.{insert_cases, insert_keeps, insert_here}
use Rattle.datalog.proofs.Complete.{complete_below}
use Rattle.datalog.proofs.Engine.{complete_keeps, has_none}
use Rattle.output.specs.Program.{program}
use Rattle.output.specs.Ruled.{program_stratified}
use Rattle.atom_puts.specs.declared.fact.Fact.{Fact}
use Rattle.atom_puts.specs.declared.fact.Fact.TheVariants as fact
use Rattle.atom_puts.specs.Facts.{row_of}
use Rattle.runs.specs.declared.script.Call.{Call}
use Rattle.runs.specs.declared.script.Call.TheVariants as call
use Rattle.runs.specs.declared.script.Step.{Step}
use Rattle.runs.specs.declared.script.Event.{Event}
use Rattle.runs.specs.declared.script.Event.TheVariants.{Put}
use Rattle.runs.specs.Histories.{accept, accepted_onto, accepted}
use Rattle.runs.specs.Traces.{Deed, deed, Order, orders, Phase, Act, Turn, Trace}
use Rattle.runs.specs.Told.{InAtom, InAtoms, Accepted, ToldInAtoms}
use Rattle.runs.proofs.Wholes.{promised}

then : {A B : Type 0} → Option A → (A → Option B) → Option B
then None f = None
then (Some x) f = f x

-- each event is of the call in its place
abbrev TiedOne : Order → Event → Type 0
TiedOne d (Put r a) = d.deed ≡ Deed.put r
TiedOne d _ = Unit {0}

abbrev Tied : List Order → List Event → Type 0
Tied [] [] = Unit {0}
Tied [] (e ∷ es) = ⊥
Tied (d ∷ ds) [] = ⊥
Tied (d ∷ ds) (e ∷ es) = TiedOne d e × Tied ds es

tied_more : (ds : List Order) (es : List Event) (d : Order) (e : Event) → Tied ds es → TiedOne d e → Tied (ds ++ d ∷ []) (es ++ e ∷ [])
tied_more [] [] d e t u = (u, tt)
tied_more [] (x ∷ es) d e t u = absurd t
tied_more (x ∷ ds) [] d e t u = absurd t
tied_more (x ∷ ds) (y ∷ es) d e t u = (t.0, tied_more ds es d e t.1 u)

module _ {S : Type 0} (M : Meaning S) where
  act_tied : (i : ℕ) (ph q : Phase) (t u : S) (d : Deed) (e : Event) → Act M ph t d e q u → TiedOne (record { run = i; deed = d }) e
  act_tied i ph q t u d e (Act.not_made x) = tt
  act_tied i ph q t u d e (Act.puts n m r a put) = refl
  act_tied i ph q t u d e (Act.starts n) = tt
  act_tied i ph q t u d e (Act.advances b a x y) = tt
  act_tied i ph q t u d e (Act.settles x y) = tt
  act_tied i ph q t u d e (Act.not_settled x) = tt
  act_tied i ph q t u d e (Act.reads r a x) = tt

  turn_tied : (ps qs : List Phase) (t u : S) (d : Order) (e : Event) → Turn M ps t d e qs u → TiedOne d e
  turn_tied ps qs t u d e (Turn.began i x y) = tt
  turn_tied ps qs t u d e (Turn.not_begun i x) = tt
  turn_tied ps qs t u d e (Turn.acts i deed q a) = act_tied i _ q t u deed e a

  trace_tied : {ds : List Order} {es : List Event} {ps : List Phase} {s t : S} → Trace M ds es ps s t → Tied ds es
  trace_tied Trace.opened = tt
  trace_tied (Trace.then {os = ds} {es = es} {ps = ps} {qs = qs} {t = t} {u = u} d e before turn) = tied_more ds es d e (trace_tied before) (turn_tied ps qs t u d e turn)

-- what was accepted was put
abbrev PutOne : Row → Event → Type 0
PutOne r e = (outcome : Outcome) × (e ≡ Put r (Ok outcome))

abbrev SomePut : Row → List Event → Type 0
SomePut r [] = ⊥
SomePut r (e ∷ es) = PutOne r e ⊎ SomePut r es

accept_either : (r : Row) (e : Event) (facts : List Row) → Among (accept e facts) r → Among facts r ⊎ PutOne r e
accept_either r (Put x (Ok outcome)) facts h = ⊎_elim (λ e. inr (outcome, ap (λ (y : Row). Put y (Ok outcome)) e)) inl (insert_cases x r facts h)
accept_either r _ facts h = inl h

was_put : (r : Row) (facts : List Row) (es : List Event) → Among (accepted_onto facts es) r → Among facts r ⊎ SomePut r es
was_put r facts [] h = inl h
was_put r facts (e ∷ es) h = ⊎_elim (λ k. ⊎_elim inl (λ q. inr (inl q)) (accept_either r e facts k)) (λ k. inr (inr k)) (was_put r (accept e facts) es h)

accept_keeps : (r : Row) (e : Event) (facts : List Row) → Among facts r → Among (accept e facts) r
accept_keeps r (Put x (Ok outcome)) facts h = insert_keeps x r facts h
accept_keeps r _ facts h = h

kept_on : (r : Row) (facts : List Row) (es : List Event) → Among facts r → Among (accepted_onto facts es) r
kept_on r facts [] h = h
kept_on r facts (e ∷ es) h = kept_on r (accept e facts) es (accept_keeps r e facts h)

-- The kinds of atoms, each with its law.
module _ (F : Type 0) {O L P V H : Type 0} (o : O → ℕ) (l : L → ℕ) (p : P → ℕ) (v : V → ℕ) (h : H → ℕ)
    (o-of : ℕ → Option O) (l-of : ℕ → Option L) (p-of : ℕ → Option P) (v-of : ℕ → Option V) (h-of : ℕ → Option H)
    (o-back : (x : O) → o-of (o x) ≡ Some x) (l-back : (x : L) → l-of (l x) ≡ Some x) (p_back : (x : P) → p-of (p x) ≡ Some x)
    (v-back : (x : V) → v-of (v x) ≡ Some x) (h-back : (x : H) → h-of (h x) ≡ Some x) where
  one : {A : Type 0} → (ℕ → Option A) → (A → Fact F O L P V H) → Row → Option (Fact F O L P V H)
  one f make r = then (f r.a) (λ x. Some (make x))

  two : {A B : Type 0} → (ℕ → Option A) → (ℕ → Option B) → (A → B → Fact F O L P V H) → Row → Option (Fact F O L P V H)
  two f g make r = then (f r.a) (λ x. then (g r.b) (λ y. Some (make x y)))

  three : {A B C : Type 0} → (ℕ → Option A) → (ℕ → Option B) → (ℕ → Option C) → (A → B → C → Fact F O L P V H) → Row → Option (Fact F O L P V H)
  three f g k make r = then (f r.a) (λ x. then (g r.b) (λ y. then (k r.c) (λ z. Some (make x y z))))

  -- the fact in atoms that a row stands for
  abbrev fact_at : ℕ → Row → Option (Fact F O L P V H)
  fact_at k r =
      cond (eqb k 0) (three o-of l-of p-of fact.LoanIssuedAt r) (
      cond (eqb k 1) (one o-of fact.UniversalRegion r) (
      cond (eqb k 2) (two p-of p-of fact.CfgEdge r) (
      cond (eqb k 3) (two l-of p-of fact.LoanKilledAt r) (
      cond (eqb k 4) (three o-of o-of p-of fact.SubsetBase r) (
      cond (eqb k 5) (two p-of l-of fact.LoanInvalidatedAt r) (
      cond (eqb k 6) (two v-of p-of fact.VarUsedAt r) (
      cond (eqb k 7) (two v-of p-of fact.VarDefinedAt r) (
      cond (eqb k 8) (two v-of p-of fact.VarDroppedAt r) (
      cond (eqb k 9) (two v-of o-of fact.UseOfVarDerefsOrigin r) (
      cond (eqb k 10) (two v-of o-of fact.DropOfVarDerefsOrigin r) (
      cond (eqb k 11) (two h-of h-of fact.ChildPath r) (
      cond (eqb k 12) (two h-of v-of fact.PathIsVar r) (
      cond (eqb k 13) (two h-of p-of fact.PathAssignedAtBase r) (
      cond (eqb k 14) (two h-of p-of fact.PathMovedAtBase r) (
      cond (eqb k 15) (two h-of p-of fact.PathAccessedAtBase r) (
      cond (eqb k 16) (two o-of o-of fact.KnownPlaceholderSubset r) (
      cond (eqb k 17) (two o-of l-of fact.Placeholder r) (
      None))))))))))))))))))

  one_back : {A : Type 0} (f : ℕ → Option A) (make : A → Fact F O L P V H) (n : A → ℕ) → ((x : A) → f (n x) ≡ Some x) → (k : ℕ) (x : A) → one f make (record { relation = k; a = n x; b = 0; c = 0 }) ≡ Some (make x)
  unfolding one then
  one_back f make n law k x = rw (law x)

  two_back : {A B : Type 0} (f : ℕ → Option A) (g : ℕ → Option B) (make : A → B → Fact F O L P V H) (n : A → ℕ) (m : B → ℕ) → ((x : A) → f (n x) ≡ Some x) → ((y : B) → g (m y) ≡ Some y)
      → (k : ℕ) (x : A) (y : B) → two f g make (record { relation = k; a = n x; b = m y; c = 0 }) ≡ Some (make x y)
  unfolding two then
  two_back f g make n m law law' k x y = rw (law x, law' y)

  three_back : {A B C : Type 0} (f : ℕ → Option A) (g : ℕ → Option B) (e : ℕ → Option C) (make : A → B → C → Fact F O L P V H) (n : A → ℕ) (m : B → ℕ) (i : C → ℕ)
      → ((x : A) → f (n x) ≡ Some x) → ((y : B) → g (m y) ≡ Some y) → ((z : C) → e (i z) ≡ Some z)
      → (k : ℕ) (x : A) (y : B) (z : C) → three f g e make (record { relation = k; a = n x; b = m y; c = i z }) ≡ Some (make x y z)
  unfolding three then
  three_back f g e make n m i law law' law'' k x y z = rw (law x, law' y, law'' z)

  fact_back : (f : Fact F O L P V H) → fact_at (row_of o l p v h f).relation (row_of o l p v h f) ≡ Some f
  fact_back (fact.LoanIssuedAt x y z) = three_back o-of l-of p-of fact.LoanIssuedAt o l p o-back l-back p_back 0 x y z
  fact_back (fact.UniversalRegion x) = one_back o-of fact.UniversalRegion o o-back 1 x
  fact_back (fact.CfgEdge x y) = two_back p-of p-of fact.CfgEdge p p p_back p_back 2 x y
  fact_back (fact.LoanKilledAt x y) = two_back l-of p-of fact.LoanKilledAt l p l-back p_back 3 x y
  fact_back (fact.SubsetBase x y z) = three_back o-of o-of p-of fact.SubsetBase o o p o-back o-back p_back 4 x y z
  fact_back (fact.LoanInvalidatedAt x y) = two_back p-of l-of fact.LoanInvalidatedAt p l p_back l-back 5 x y
  fact_back (fact.VarUsedAt x y) = two_back v-of p-of fact.VarUsedAt v p v-back p_back 6 x y
  fact_back (fact.VarDefinedAt x y) = two_back v-of p-of fact.VarDefinedAt v p v-back p_back 7 x y
  fact_back (fact.VarDroppedAt x y) = two_back v-of p-of fact.VarDroppedAt v p v-back p_back 8 x y
  fact_back (fact.UseOfVarDerefsOrigin x y) = two_back v-of o-of fact.UseOfVarDerefsOrigin v o v-back o-back 9 x y
  fact_back (fact.DropOfVarDerefsOrigin x y) = two_back v-of o-of fact.DropOfVarDerefsOrigin v o v-back o-back 10 x y
  fact_back (fact.ChildPath x y) = two_back h-of h-of fact.ChildPath h h h-back h-back 11 x y
  fact_back (fact.PathIsVar x y) = two_back h-of v-of fact.PathIsVar h v h-back v-back 12 x y
  fact_back (fact.PathAssignedAtBase x y) = two_back h-of p-of fact.PathAssignedAtBase h p h-back p_back 13 x y
  fact_back (fact.PathMovedAtBase x y) = two_back h-of p-of fact.PathMovedAtBase h p h-back p_back 14 x y
  fact_back (fact.PathAccessedAtBase x y) = two_back h-of p-of fact.PathAccessedAtBase h p h-back p_back 15 x y
  fact_back (fact.KnownPlaceholderSubset x y) = two_back o-of o-of fact.KnownPlaceholderSubset o o o-back o-back 16 x y
  fact_back (fact.Placeholder x y) = two_back o-of l-of fact.Placeholder o l o-back l-back 17 x y

  -- two facts in atoms with one row are one
  pub one_fact : (f g : Fact F O L P V H) → row_of o l p v h f ≡ row_of o l p v h g → f ≡ g
  one_fact f g e =
      let both : Some f ≡ Some g = sym (fact_back f) ∙ ap (λ (r : Row). fact_at r.relation r) e ∙ fact_back g in
      cc

  fact_relation : (f : Fact F O L P V H) → (row_of o l p v h f).relation < 18
  fact_relation (fact.LoanIssuedAt x y z) = omega arith
  fact_relation (fact.UniversalRegion x) = omega arith
  fact_relation (fact.CfgEdge x y) = omega arith
  fact_relation (fact.LoanKilledAt x y) = omega arith
  fact_relation (fact.SubsetBase x y z) = omega arith
  fact_relation (fact.LoanInvalidatedAt x y) = omega arith
  fact_relation (fact.VarUsedAt x y) = omega arith
  fact_relation (fact.VarDefinedAt x y) = omega arith
  fact_relation (fact.VarDroppedAt x y) = omega arith
  fact_relation (fact.UseOfVarDerefsOrigin x y) = omega arith
  fact_relation (fact.DropOfVarDerefsOrigin x y) = omega arith
  fact_relation (fact.ChildPath x y) = omega arith
  fact_relation (fact.PathIsVar x y) = omega arith
  fact_relation (fact.PathAssignedAtBase x y) = omega arith
  fact_relation (fact.PathMovedAtBase x y) = omega arith
  fact_relation (fact.PathAccessedAtBase x y) = omega arith
  fact_relation (fact.KnownPlaceholderSubset x y) = omega arith
  fact_relation (fact.Placeholder x y) = omega arith

  put_accepted : (f : Fact F O L P V H) (facts : List Row) (ss : List (Step F O L P V H)) (es : List Event) → Accepted o l p v h f ss es → Among (accepted_onto facts es) (row_of o l p v h f)
  put_accepted f facts [] es a = absurd a
  put_accepted f facts (s ∷ ss) [] a = absurd a
  put_accepted f facts (s ∷ ss) (e ∷ es) (inl a) =
      kept_on (row_of o l p v h f) (accept e facts) es
      (subst (λ (x : Event). Among (accept x facts) (row_of o l p v h f)) (sym a.1.1) (insert_here (row_of o l p v h f) facts))
  put_accepted f facts (s ∷ ss) (e ∷ es) (inr a) = put_accepted f (accept e facts) ss es a

  -- a put in atoms of a row is the put of a fact
  in_atoms : (c : Call F O L P V H) (r : Row) → InAtom c → deed o l p v h c ≡ Deed.put r → (f : Fact F O L P V H) × (c ≡ call.PutFact f) × (row_of o l p v h f ≡ r)
  in_atoms (call.Put x) r a e = absurd a
  in_atoms (call.PutFact f) r a e = (f, refl, cc)
  in_atoms _ r a e = cc

  put_found : (f : Fact F O L P V H) (ss : List (Step F O L P V H)) (es : List Event) → InAtoms ss → Tied (orders o l p v h ss) es → SomePut (row_of o l p v h f) es → Accepted o l p v h f ss es
  put_found f [] [] a t q = absurd q
  put_found f [] (e ∷ es) a t q = absurd t
  put_found f (s ∷ ss) [] a t q = absurd t
  put_found f (s ∷ ss) (e ∷ es) a t (inr q) = inr (put_found f ss es a.1 t.1 q)
  put_found f (s ∷ ss) (e ∷ es) a t (inl q) =
      let d : Order = record { run = s.run; deed = deed o l p v h s.call } in
      let w = in_atoms s.call (row_of o l p v h f) a.0 (subst (λ (x : Event). TiedOne d x) q.1 t.0) in
      inl (w.1 ∙ ap call.PutFact (one_fact w.0 f w.2), q)

  pub told : {S : Type 0} (M : Meaning S) → ((s : S) → Lawful (M.bounds s) (M.rows s))
      → (ss : List (Step F O L P V H)) {es : List Event} {ps : List Phase} {s t : S} → Trace M (orders o l p v h ss) es ps s t → M.rows s ≡ [] → ToldInAtoms o l p v h ss es (M.rows t)
  told M lawful ss {es = es} tr empty one d atoms f =
      let r : Row = row_of o l p v h f in
      let holds = (promised M lawful tr empty one d).0 r in (
        (λ m. ⊎_elim (λ k. absurd (has_none r k)) (λ q. put_found f ss es atoms (trace_tied M tr) q)
            (was_put r [] es (complete_below 18 program program_stratified (Among (accepted es)) r (fact_relation f) (holds.0 m)))),
        (λ a. holds.1 (complete_keeps program (Among (accepted es)) r (put_accepted f [] ss es a))),
      )

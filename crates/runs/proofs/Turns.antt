-- The player's states as phases, and one step of a script.
use Rattle.std.proofs.Common.{◌≡◌, ℕ, zero, suc, ◌+◌, ◌<◌, ◌≤◌, List, [], ◌∷◌, ◌++◌, length, get_or, take, set, Some, None, Ok, Err, Option, sym, refl, ap, ◌∙◌, subst, arith, take_all}
use Rattle.std.proofs.lemmas.List.{get_or_past, get_or_read, set_past}
use Rattle.rows.specs.declared.row.Row.{Row}
use Rattle.analysis.specs.declared.fault.RunFault.{RunFault}
use Rattle.analysis.specs.declared.fault.RunFault.TheVariants.{NotEmpty}
use Rattle.analysis.specs.declared.state.Filling.{Filling}
use Rattle.analysis.specs.Calls.{begun}
use Rattle.runs.specs.declared.script.Call.{Call}
use Rattle.runs.specs.declared.script.Call.TheVariants as call
use Rattle.runs.specs.declared.script.Step.{Step}
use Rattle.runs.specs.declared.script.Event.{Event}
use Rattle.runs.specs.declared.script.Event.TheVariants.{NotMade, Began}
use Rattle.runs.specs.declared.script.State.{State}
use Rattle.runs.specs.declared.script.State.TheVariants as state
use Rattle.runs.specs.Traces.{Deed, deed, Order, orders, Phase, phase, phase_at, phases, at, Barred, OnRun, Act, Turn, Trace}
use Rattle.rows.specs.Tables.{Meaning}

pub phases_push : (ss : List (Option State)) (s : Option State) → phases (ss ++ s ∷ []) ≡ phases ss ++ phase_at s ∷ []
phases_push [] s = refl
phases_push (x ∷ ss) s = ap (λ ps. phase_at x ∷ ps) (phases_push ss s)

pub phases_set : (ss : List (Option State)) (i : ℕ) (s : Option State) → phases (set ss i s) ≡ set (phases ss) i (phase_at s)
phases_set [] i s = refl
phases_set (x ∷ ss) zero s = refl
phases_set (x ∷ ss) (suc i) s = ap (λ ps. phase_at x ∷ ps) (phases_set ss i s)

pub phases_at : (ss : List (Option State)) (i : ℕ) → at (phases ss) i ≡ phase_at (get_or ss i None)
phases_at [] i = refl
phases_at (x ∷ ss) zero = refl
phases_at (x ∷ ss) (suc i) = phases_at ss i

phases_length : (ss : List (Option State)) → length (phases ss) ≡ length ss
phases_length [] = refl
phases_length (x ∷ ss) = ap suc (phases_length ss)

begun_ok : (c : List Row) (f : Filling) → Ok f ≡ begun c → (c ≡ []) × (f.facts ≡ 0)
begun_ok [] f e = (refl, ap (λ (x : Filling). x.facts) (let z : f ≡ record { facts = 0 } = cc in z))
begun_ok (r ∷ c) f e = cc

begun_err : (c : List Row) (f : RunFault) → Err f ≡ begun c → (f ≡ NotEmpty) × (¬ (c ≡ []))
begun_err [] f e = cc
begun_err (r ∷ c) f e = (cc, λ i. let z : suc (length c) ≡ 0 = ap length i in omega arith)

-- no call on a run that was not begun
none_barred : (d : Deed) → OnRun d → Barred d Phase.none
none_barred Deed.begin o = o
none_barred _ o = tt

-- One step of a script, by the call that it makes.
module _ {F O L P V H : Type 0} (o : O → ℕ) (l : L → ℕ) (p : P → ℕ) (v : V → ℕ) (h : H → ℕ) {S : Type 0} (M : Meaning S)
    (ss : List (Option State)) (t : S) (i : ℕ) (c : Call F O L P V H) where
  abbrev Steps : Call F O L P V H → Event → List Phase → S → Type 0
  Steps x e ps u = Turn M (phases ss) t (record { run = i; deed = deed o l p v h x }) e ps u

  abbrev Goes : Event → List (Option State) → S → Type 0
  Goes e ss' u = Steps c e (phases ss') u

  -- a call that is not a begin is made on a run
  on_run : (x : Call F O L P V H) → (x ≡ call.Begin → ⊥) → OnRun (deed o l p v h x)
  on_run call.Begin n = n refl
  on_run _ n = tt

  pub begins_run : (f : Filling) (ss' : List (Option State)) → c ≡ call.Begin → Ok f ≡ begun (M.rows t) → ss' ≡ ss ++ Some (state.Filling f) ∷ [] → Goes (Began (Ok tt)) ss' t
  begins_run f ss' ec e is =
      let b = begun_ok (M.rows t) f e in
      let q : phases ss' ≡ phases ss ++ Phase.filling 0 ∷ [] = ap phases is ∙ phases_push ss (Some (state.Filling f)) ∙ ap (λ (n : ℕ). phases ss ++ Phase.filling n ∷ []) b.1 in
      subst (λ (x : Call F O L P V H). Steps x (Began (Ok tt)) (phases ss') t) (sym ec)
      (subst (λ (ps : List Phase). Steps call.Begin (Began (Ok tt)) ps t) (sym q) (Turn.began i tt b.0))

  pub begins_not : (f : RunFault) → c ≡ call.Begin → Err f ≡ begun (M.rows t) → Goes (Began (Err f)) ss t
  begins_not f ec e =
      let b = begun_err (M.rows t) f e in
      subst (λ (x : Call F O L P V H). Steps x (Began (Err f)) (phases ss) t) (sym ec)
      (subst (λ (x : RunFault). Steps call.Begin (Began (Err x)) (phases ss) t) (sym b.0) (Turn.not_begun i b.1))

  -- a call on a run that was not begun changes no run
  on_none : at (phases ss) i ≡ Phase.none → (c ≡ call.Begin → ⊥) → Steps c NotMade (set (phases ss) i Phase.none) t
  on_none none n =
      Turn.acts i _ Phase.none (subst (λ (q : Phase). Act M q t (deed o l p v h c) NotMade Phase.none t) (sym none)
      (Act.not_made (none_barred (deed o l p v h c) (on_run c n))))

  pub goes_nowhere : length ss ≤ i → (c ≡ call.Begin → ⊥) → Goes NotMade ss t
  goes_nowhere out n =
      let k = phases_length ss in
      let w : length (phases ss) ≤ i = omega arith in
      subst (λ (ps : List Phase). Steps c NotMade ps t) (set_past (phases ss) i Phase.none w) (on_none (get_or_past (phases ss) i Phase.none w) n)

  -- the phase of the run at a place
  held : (x : Option State) → i < length ss → x ≡ get_or ss i x → at (phases ss) i ≡ phase_at x
  held x lt is = phases_at ss i ∙ ap phase_at (sym (get_or_read ss i x lt is None))

  pub goes_on_none : (x y : Option State) → i < length ss → x ≡ get_or ss i x → x ≡ None → y ≡ None → (c ≡ call.Begin → ⊥) → Goes NotMade (set ss i y) t
  goes_on_none x y lt is none after n =
      subst (λ (ps : List Phase). Steps c NotMade ps t) (sym (phases_set ss i y ∙ ap (λ (z : Option State). set (phases ss) i (phase_at z)) after))
      (on_none (held x lt is ∙ ap phase_at none) n)

  pub goes_on : (x : Option State) (s s' : State) (e : Event) (u : S) → i < length ss → x ≡ get_or ss i x → x ≡ Some s → (c ≡ call.Begin → ⊥)
      → (OnRun (deed o l p v h c) → Act M (phase s) t (deed o l p v h c) e (phase s') u) → Goes e (set ss i (Some s')) u
  goes_on x s s' e u lt is some n act =
      subst (λ (ps : List Phase). Steps c e ps u) (sym (phases_set ss i (Some s')))
      (Turn.acts i _ (phase s') (subst (λ (q : Phase). Act M q t (deed o l p v h c) e (phase s') u) (sym (held x lt is ∙ ap phase_at some)) (act (on_run c n))))

pub ruleset turns = (begins_run, begins_not, goes_nowhere, goes_on_none, goes_on)

-- A script that is not begun.
module _ {S : Type 0} (M : Meaning S) where
  pub trace_opened : (es : List Event) (ss : List (Option State)) (t : S) → es ≡ [] → ss ≡ [] → Trace M [] es (phases ss) t t
  trace_opened es ss t a b =
      subst (λ (xs : List Event). Trace M [] xs (phases ss) t t) (sym a) (subst (λ (xs : List (Option State)). Trace M [] [] (phases xs) t t) (sym b) Trace.opened)

-- A script with one step more.
module _ {F O L P V H : Type 0} (o : O → ℕ) (l : L → ℕ) (p : P → ℕ) (v : V → ℕ) (h : H → ℕ) where
  abbrev pub order : Step F O L P V H → Order
  order s = record { run = s.run; deed = deed o l p v h s.call }

  pub orders_more : (i : ℕ) (ss : List (Step F O L P V H)) (s : Step F O L P V H) → i < length ss → s ≡ get_or ss i s
      → orders o l p v h (take (i + 1) ss) ≡ orders o l p v h (take i ss) ++ order s ∷ []
  orders_more i [] s lt is = absurd (omega arith)
  orders_more zero (x ∷ ss) s lt is = ap (λ (y : Step F O L P V H). order y ∷ []) (sym is)
  orders_more (suc i) (x ∷ ss) s lt is =
      let e : suc i + 1 ≡ suc (i + 1) = omega arith in
      ap (λ (n : ℕ). orders o l p v h (take n (x ∷ ss))) e ∙ ap (λ os. order x ∷ os) (orders_more i ss s (omega arith) is)

  module _ {S : Type 0} (M : Meaning S) where
    pub trace_more : (script : List (Step F O L P V H)) (k : ℕ) (x : Step F O L P V H) (es es' : List Event) (ps qs : List Phase) (s t u : S) (e : Event) → k < length script → x ≡ get_or script k x
        → es' ≡ es ++ e ∷ [] → Trace M (orders o l p v h (take k script)) es ps s t → Turn M ps t (order x) e qs u
        → Trace M (orders o l p v h (take (k + 1) script)) es' qs s u
    trace_more script k x es es' ps qs s t u e lt is a tr turn =
        subst (λ (xs : List Order). Trace M xs es' qs s u) (sym (orders_more k script x lt is))
        (subst (λ (xs : List Event). Trace M (orders o l p v h (take k script) ++ order x ∷ []) xs qs s u) (sym a) (Trace.then (order x) e tr turn))

    pub trace_whole : (script : List (Step F O L P V H)) (k : ℕ) (es : List Event) (ps : List Phase) (s t : S) → length script ≤ k → Trace M (orders o l p v h (take k script)) es ps s t
        → Trace M (orders o l p v h script) es ps s t
    trace_whole script k es ps s t all tr = subst (λ (xs : List (Step F O L P V H)). Trace M (orders o l p v h xs) es ps s t) (take_all k script all) tr

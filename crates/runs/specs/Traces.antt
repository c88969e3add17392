-- Scripts played: each call made by its contract, on the state that its run is in.
use Rattle.std.specs.Prelude.{◌≡◌, ℕ, List, [], ◌∷◌, ◌++◌, Some, None, Ok, Err, Option, Result, slice_index_or, slice_set}
use Rattle.rows.specs.declared.row.Row.{Row}
use Rattle.rows.specs.declared.answer.Outcome.{Outcome}
use Rattle.datalog.specs.declared.progress.Progress.{Progress}
use Rattle.output.specs.Completion.{Missing}
use Rattle.analysis.specs.declared.fault.RunFault.{RunFault}
use Rattle.analysis.specs.declared.fault.RunFault.TheVariants.{NotEmpty, RowsMissing}
use Rattle.analysis.specs.Calls.{Putting, Advancing, read_answer}
use Rattle.atom_puts.specs.Facts.{row_of}
use Rattle.runs.specs.declared.script.Call.{Call}
use Rattle.runs.specs.declared.script.Call.TheVariants as call
use Rattle.runs.specs.declared.script.Step.{Step}
use Rattle.runs.specs.declared.script.Event.{Event}
use Rattle.runs.specs.declared.script.Event.TheVariants.{NotMade, Began, Put, Started, Advanced, Settled, Read}
use Rattle.runs.specs.declared.script.State.{State}
use Rattle.runs.specs.declared.script.State.TheVariants as state
use Rattle.rows.specs.Tables.{Meaning}

-- A call in rows: a fact put in atoms is put as its row.
pub data Deed : Type 0 where
  begin : Deed
  put : Row → Deed
  start : Deed
  advance : ℕ → Deed
  settle : Deed
  read : Row → Deed

abbrev pub deed : {F O L P V H : Type 0} → (O → ℕ) → (L → ℕ) → (P → ℕ) → (V → ℕ) → (H → ℕ) → Call F O L P V H → Deed
deed o l p v h call.Begin = Deed.begin
deed o l p v h (call.Put r) = Deed.put r
deed o l p v h (call.PutFact f) = Deed.put (row_of o l p v h f)
deed o l p v h call.Start = Deed.start
deed o l p v h (call.Advance b) = Deed.advance b
deed o l p v h call.Settle = Deed.settle
deed o l p v h (call.Read q) = Deed.read q

-- A call, and the run that it is made on.
pub record Order : Type 0 where
  pub run : ℕ
  pub deed : Deed

abbrev pub orders : {F O L P V H : Type 0} → (O → ℕ) → (L → ℕ) → (P → ℕ) → (V → ℕ) → (H → ℕ) → List (Step F O L P V H) → List Order
orders o l p v h [] = []
orders o l p v h (s ∷ ss) = record { run = s.run; deed = deed o l p v h s.call } ∷ orders o l p v h ss

-- The state of a run. Filling has the number of facts added; none is the state of a run that was not begun.
pub data Phase : Type 0 where
  filling : ℕ → Phase
  running done none : Phase

abbrev pub phase : State → Phase
phase (state.Filling f) = Phase.filling f.facts
phase (state.Running r) = Phase.running
phase (state.Done d) = Phase.done

abbrev pub at : List Phase → ℕ → Phase
at ps i = slice_index_or ps i Phase.none

-- A run in that state cannot have the call made on it: the call takes another one.
abbrev pub Barred : Deed → Phase → Type 0
Barred Deed.begin q = ⊥
Barred (Deed.put r) (Phase.filling n) = ⊥
Barred (Deed.put r) Phase.running = Unit {0}
Barred (Deed.put r) Phase.done = Unit {0}
Barred (Deed.put r) Phase.none = Unit {0}
Barred Deed.start (Phase.filling n) = ⊥
Barred Deed.start Phase.running = Unit {0}
Barred Deed.start Phase.done = Unit {0}
Barred Deed.start Phase.none = Unit {0}
Barred (Deed.advance b) (Phase.filling n) = Unit {0}
Barred (Deed.advance b) Phase.running = ⊥
Barred (Deed.advance b) Phase.done = Unit {0}
Barred (Deed.advance b) Phase.none = Unit {0}
Barred Deed.settle (Phase.filling n) = Unit {0}
Barred Deed.settle Phase.running = ⊥
Barred Deed.settle Phase.done = Unit {0}
Barred Deed.settle Phase.none = Unit {0}
Barred (Deed.read q) (Phase.filling n) = Unit {0}
Barred (Deed.read q) Phase.running = Unit {0}
Barred (Deed.read q) Phase.done = ⊥
Barred (Deed.read q) Phase.none = Unit {0}

-- A call that is made on a run, not a begin.
abbrev pub OnRun : Deed → Type 0
OnRun Deed.begin = ⊥
OnRun (Deed.put r) = Unit {0}
OnRun Deed.start = Unit {0}
OnRun (Deed.advance b) = Unit {0}
OnRun Deed.settle = Unit {0}
OnRun (Deed.read q) = Unit {0}

module _ {S : Type 0} (M : Meaning S) where
  -- One call on a run: the state of the run and the table before it, the event, and both after it.
  pub data Act : Phase → S → Deed → Event → Phase → S → Type 0 where
    not_made : {q : Phase} {t : S} {d : Deed} → Barred d q → Act q t d NotMade q t
    puts : {t u : S} (n m : ℕ) (r : Row) (a : Result Outcome RunFault) → Putting M t n r a u m → Act (Phase.filling n) t (Deed.put r) (Put r a) (Phase.filling m) u
    starts : {t : S} (n : ℕ) → Act (Phase.filling n) t Deed.start Started Phase.running t
    advances : {t u : S} (b : ℕ) (a : Result Progress RunFault) → Advancing M b t a u → M.bounds u ≡ M.bounds t → Act Phase.running t (Deed.advance b) (Advanced b a) Phase.running u
    settles : {t : S} (u : Unit {0}) → ((r : Row) → ¬ Missing (M.rows t) r) → Act Phase.running t Deed.settle (Settled (Ok u)) Phase.done t
    not_settled : {t : S} → ((r : Row) × Missing (M.rows t) r) → Act Phase.running t Deed.settle (Settled (Err RowsMissing)) Phase.running t
    reads : {t : S} (q : Row) (a : Option Row) → a ≡ read_answer (M.rows t) q → Act Phase.done t (Deed.read q) (Read q a) Phase.done t

  -- One call of a script: a begin that is accepted makes one run more, and any other call is made on the run that it names.
  pub data Turn : List Phase → S → Order → Event → List Phase → S → Type 0 where
    began : {ps : List Phase} {t : S} (i : ℕ) (u : Unit {0}) → M.rows t ≡ [] → Turn ps t (record { run = i; deed = Deed.begin }) (Began (Ok u)) (ps ++ Phase.filling 0 ∷ []) t
    not_begun : {ps : List Phase} {t : S} (i : ℕ) → ¬ (M.rows t ≡ []) → Turn ps t (record { run = i; deed = Deed.begin }) (Began (Err NotEmpty)) ps t
    acts : {ps : List Phase} {t u : S} {e : Event} (i : ℕ) (d : Deed) (q : Phase) → Act (at ps i) t d e q u → Turn ps t (record { run = i; deed = d }) e (slice_set ps i q) u

  -- Calls one after another, in their order, from one table to another.
  pub data Trace : List Order → List Event → List Phase → S → S → Type 0 where
    opened : {s : S} → Trace [] [] [] s s
    then : {os : List Order} {es : List Event} {ps qs : List Phase} {s t u : S} (o : Order) (e : Event)
        → Trace os es ps s t → Turn ps t o e qs u → Trace (os ++ o ∷ []) (es ++ e ∷ []) qs s u

-- the phases of the player's runs; a place whose state is moved out has none
abbrev pub phase_at : Option State → Phase
phase_at (Some s) = phase s
phase_at None = Phase.none

abbrev pub phases : List (Option State) → List Phase
phases [] = []
phases (o ∷ os) = phase_at o ∷ phases os

-- The calls of a script, in their order, each with the event of its place, lead from one table to another.
abbrev pub Played : {S : Type 0} → Meaning S → List Order → List Event → S → S → Type 0
Played M os es s t = (ps : List Phase) × Trace M os es ps s t

-- The promise told in atoms.
use Rattle.std.specs.Prelude.{◌≡◌, ℕ, ◌⊎◌, ◌↔◌, List, [], ◌∷◌, Ok}
use Rattle.rows.specs.declared.row.Row.{Row}
use Rattle.rows.specs.declared.answer.Outcome.{Outcome}
use Rattle.datalog.specs.Contents.{Among}
use Rattle.atom_puts.specs.declared.fact.Fact.{Fact}
use Rattle.atom_puts.specs.Facts.{row_of}
use Rattle.runs.specs.declared.script.Call.{Call}
use Rattle.runs.specs.declared.script.Call.TheVariants as call
use Rattle.runs.specs.declared.script.Step.{Step}
use Rattle.runs.specs.declared.script.Event.{Event}
use Rattle.runs.specs.declared.script.Event.TheVariants.{Put}
use Rattle.runs.specs.Histories.{begins, reached}

-- no call puts a row that is not told in atoms
abbrev pub InAtom : {F O L P V H : Type 0} → Call F O L P V H → Type 0
InAtom call.Begin = Unit {0}
InAtom (call.Put r) = ⊥
InAtom (call.PutFact f) = Unit {0}
InAtom call.Start = Unit {0}
InAtom (call.Advance b) = Unit {0}
InAtom call.Settle = Unit {0}
InAtom (call.Read q) = Unit {0}

abbrev pub InAtoms : {F O L P V H : Type 0} → List (Step F O L P V H) → Type 0
InAtoms [] = Unit {0}
InAtoms (s ∷ ss) = InAtom s.call × InAtoms ss

module _ {F O L P V H : Type 0} (o : O → ℕ) (l : L → ℕ) (p : P → ℕ) (v : V → ℕ) (h : H → ℕ) where
  -- the fact was put in atoms, and the put answered added or held
  abbrev pub Accepts : Fact F O L P V H → Step F O L P V H → Event → Type 0
  Accepts f s e = (s.call ≡ call.PutFact f) × ((outcome : Outcome) × (e ≡ Put (row_of o l p v h f) (Ok outcome)))

  abbrev pub Accepted : Fact F O L P V H → List (Step F O L P V H) → List Event → Type 0
  Accepted f [] es = ⊥
  Accepted f (s ∷ ss) [] = ⊥
  Accepted f (s ∷ ss) (e ∷ es) = Accepts f s e ⊎ Accepted f ss es

  -- Where all puts were made in atoms, the table at the end holds just those facts in atoms that were accepted.
  abbrev pub ToldInAtoms : List (Step F O L P V H) → List Event → List Row → Type 0
  ToldInAtoms ss es table = begins es ≡ 1 → reached es → InAtoms ss → (f : Fact F O L P V H) → (Among table (row_of o l p v h f) ↔ Accepted f ss es)

-- Calls on a run, as the player makes them.
use Rattle.std.proofs.Common.{◌≡◌, ℕ, Ok, Err, Option, Result, sym, refl, subst}
use Rattle.rows.specs.declared.row.Row.{Row}
use Rattle.rows.specs.declared.answer.Outcome.{Outcome}
use Rattle.datalog.specs.declared.progress.Progress.{Progress}
use Rattle.output.specs.Completion.{Missing}
use Rattle.analysis.specs.declared.fault.RunFault.{RunFault}
use Rattle.analysis.specs.declared.fault.RunFault.TheVariants.{RowsMissing}
use Rattle.analysis.specs.declared.state.Filling.{Filling}
use Rattle.analysis.specs.declared.state.Running.{Running}
use Rattle.analysis.specs.declared.state.Done.{Done}
use Rattle.analysis.specs.Calls.{Putting, Advancing, read_answer}
use Rattle.atom_puts.specs.declared.fact.Fact.{Fact}
use Rattle.atom_puts.specs.Facts.{row_of}
use Rattle.runs.specs.declared.script.Call.{Call}
use Rattle.runs.specs.declared.script.Call.TheVariants as call
use Rattle.runs.specs.declared.script.Event.{Event}
use Rattle.runs.specs.declared.script.Event.TheVariants.{NotMade, Put, Started, Advanced, Settled, Read}
use Rattle.runs.specs.declared.script.State.{State}
use Rattle.runs.specs.declared.script.State.TheVariants as state
use Rattle.runs.specs.Traces.{Deed, Phase, deed, phase, Barred, OnRun, Act}
use Rattle.rows.specs.Tables.{Meaning}

-- what holds of the phases of the other two states holds of a state's that is not the one
not_filling : (P : Phase → Type 0) → P Phase.running → P Phase.done → (s : State) → ((x : Filling) → s ≡ state.Filling x → ⊥) → P (phase s)
not_filling P a b (state.Filling x) n = absurd (n x refl)
not_filling P a b (state.Running x) n = a
not_filling P a b (state.Done x) n = b

not_running : (P : Phase → Type 0) → ((n : ℕ) → P (Phase.filling n)) → P Phase.done → (s : State) → ((x : Running) → s ≡ state.Running x → ⊥) → P (phase s)
not_running P a b (state.Filling x) n = a x.facts
not_running P a b (state.Running x) n = absurd (n x refl)
not_running P a b (state.Done x) n = b

not_done : (P : Phase → Type 0) → ((n : ℕ) → P (Phase.filling n)) → P Phase.running → (s : State) → ((x : Done) → s ≡ state.Done x → ⊥) → P (phase s)
not_done P a b (state.Filling x) n = a x.facts
not_done P a b (state.Running x) n = b
not_done P a b (state.Done x) n = absurd (n x refl)

module _ {F O L P V H : Type 0} (o : O → ℕ) (l : L → ℕ) (p : P → ℕ) (v : V → ℕ) (h : H → ℕ) {S : Type 0} (M : Meaning S) (s : State) (c : Call F O L P V H) (t : S) where
  -- what the player owes for a call on a run
  abbrev Does : Event → Phase → S → Type 0
  Does e q u = OnRun (deed o l p v h c) → Act M (phase s) t (deed o l p v h c) e q u

  -- told of an equal state and an equal call
  told : (s' : State) (c' : Call F O L P V H) (e : Event) (q : Phase) (u : S) → s ≡ s' → c ≡ c' → Act M (phase s') t (deed o l p v h c') e q u → Does e q u
  told s' c' e q u es ec a on =
      subst (λ (x : State). Act M (phase x) t (deed o l p v h c) e q u) (sym es)
      (subst (λ (x : Call F O L P V H). Act M (phase s') t (deed o l p v h x) e q u) (sym ec) a)

  pub puts : (f : Filling) (r : Row) (a : Result Outcome RunFault) (m : ℕ) (u : S) → s ≡ state.Filling f → c ≡ call.Put r → Putting M t f.facts r a u m
      → Does (Put r a) (Phase.filling m) u
  puts f r a m u es ec put = told _ _ _ _ u es ec (Act.puts f.facts m r a put)

  pub puts_fact : (f : Filling) (x : Fact F O L P V H) (r : Row) (a : Result Outcome RunFault) (m : ℕ) (u : S) → s ≡ state.Filling f → c ≡ call.PutFact x → r ≡ row_of o l p v h x
      → Putting M t f.facts (row_of o l p v h x) a u m → Does (Put r a) (Phase.filling m) u
  puts_fact f x r a m u es ec is put = subst (λ (z : Row). Does (Put z a) (Phase.filling m) u) (sym is) (told _ _ _ _ u es ec (Act.puts f.facts m _ a put))

  pub starts : (f : Filling) → s ≡ state.Filling f → c ≡ call.Start → Does Started Phase.running t
  starts f es ec = told _ _ _ _ t es ec (Act.starts f.facts)

  pub advances : (r : Running) (b : ℕ) (a : Result Progress RunFault) (u : S) → s ≡ state.Running r → c ≡ call.Advance b → Advancing M b t a u → M.bounds u ≡ M.bounds t
      → Does (Advanced b a) Phase.running u
  advances r b a u es ec does kept = told _ _ _ _ u es ec (Act.advances b a does kept)

  pub settles : (r : Running) → s ≡ state.Running r → c ≡ call.Settle → ((x : Row) → ¬ Missing (M.rows t) x) → Does (Settled (Ok tt)) Phase.done t
  settles r es ec full = told _ _ _ _ t es ec (Act.settles tt full)

  pub not_settled : (r : Running) (f : RunFault) → s ≡ state.Running r → c ≡ call.Settle → f ≡ RowsMissing → ((x : Row) × Missing (M.rows t) x) → Does (Settled (Err f)) Phase.running t
  not_settled r f es ec is miss = subst (λ (x : RunFault). Does (Settled (Err x)) Phase.running t) (sym is) (told _ _ _ _ t es ec (Act.not_settled miss))

  pub reads : (d : Done) (q : Row) (a : Option Row) → s ≡ state.Done d → c ≡ call.Read q → a ≡ read_answer (M.rows t) q → Does (Read q a) Phase.done t
  reads d q a es ec is = told _ _ _ _ t es ec (Act.reads q a is)

  -- a call that the state does not take
  barred : (c' : Call F O L P V H) → c ≡ c' → Barred (deed o l p v h c') (phase s) → Does NotMade (phase s) t
  barred c' ec b on = Act.not_made (subst (λ (x : Call F O L P V H). Barred (deed o l p v h x) (phase s)) (sym ec) b)

  pub put_barred : (r : Row) → c ≡ call.Put r → ((x : Filling) → s ≡ state.Filling x → ⊥) → Does NotMade (phase s) t
  put_barred r ec n = barred _ ec (not_filling (Barred (Deed.put r)) tt tt s n)

  pub put_fact_barred : (x : Fact F O L P V H) → c ≡ call.PutFact x → ((x : Filling) → s ≡ state.Filling x → ⊥) → Does NotMade (phase s) t
  put_fact_barred x ec n = barred _ ec (not_filling (Barred (Deed.put (row_of o l p v h x))) tt tt s n)

  pub start_barred : c ≡ call.Start → ((x : Filling) → s ≡ state.Filling x → ⊥) → Does NotMade (phase s) t
  start_barred ec n = barred _ ec (not_filling (Barred Deed.start) tt tt s n)

  pub advance_barred : (b : ℕ) → c ≡ call.Advance b → ((x : Running) → s ≡ state.Running x → ⊥) → Does NotMade (phase s) t
  advance_barred b ec n = barred _ ec (not_running (Barred (Deed.advance b)) (λ k. tt) tt s n)

  pub settle_barred : c ≡ call.Settle → ((x : Running) → s ≡ state.Running x → ⊥) → Does NotMade (phase s) t
  settle_barred ec n = barred _ ec (not_running (Barred Deed.settle) (λ k. tt) tt s n)

  pub read_barred : (q : Row) → c ≡ call.Read q → ((x : Done) → s ≡ state.Done x → ⊥) → Does NotMade (phase s) t
  read_barred q ec n = barred _ ec (not_done (Barred (Deed.read q)) (λ k. tt) tt s n)

pub ruleset acts = (puts, puts_fact, starts, advances, settles, not_settled, reads, put_barred, put_fact_barred, start_barred, advance_barred, settle_barred, read_barred)

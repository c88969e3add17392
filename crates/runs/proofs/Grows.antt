-- What a whole run does to the memory of its table: rows added one after another.
use Rattle.std.proofs.Common.{◌≡◌, ℕ, List, [], ◌∷◌, ◌++◌, Ok, Err, Result, sym, refl, ap, ◌∙◌, subst}
use Rattle.rows.specs.declared.row.Row.{Row}
use Rattle.rows.specs.declared.answer.Outcome.{Outcome}
use Rattle.rows.specs.declared.answer.Outcome.TheVariants.{Held, Added}
use Rattle.rows.specs.Rows.{insert}
use Rattle.rows.specs.Adding.{Grown, joined}
use Rattle.rows.proofs.Addings.{grown_more, joined_more}
use Rattle.datalog.specs.declared.progress.Progress.{Progress}
use Rattle.datalog.specs.declared.progress.Progress.TheVariants.{Finished, Spent}
use Rattle.output.specs.Completion.{Adds}
use Rattle.analysis.specs.declared.fault.RunFault.{RunFault}
use Rattle.analysis.specs.declared.fault.RunFault.TheVariants.{NotEmpty, NotFact, RowsMissing, Refused, Stopped}
use Rattle.analysis.specs.Calls.{Putting, Advancing}
use Rattle.runs.specs.declared.script.Event.{Event}
use Rattle.runs.specs.Traces.{Deed, Order, Phase, Act, Turn, Trace}
use Rattle.rows.specs.Tables.{Meaning}

module _ {S : Type 0} (M : Meaning S) where
  -- rows were added one after another, and the table holds those and what it held
  pub record Grew (s t : S) : Type 0 where
    pub added : List Row
    pub grown : Grown M.grew s added t
    pub held : M.rows t ≡ joined (M.rows s) added

  grew_none : (s : S) → Grew s s
  unfolding joined
  grew_none s = record { added = []; grown = refl; held = refl }

  grew_same : (s t u : S) → Grew s t → u ≡ t → Grew s u
  grew_same s t u g e = subst (λ z. Grew s z) (sym e) g

  grew_more : (s t u : S) (r : Row) → Grew s t → M.grew t r u → M.rows u ≡ insert r (M.rows t) → Grew s u
  grew_more s t u r g h is = record {
    added = g.added ++ r ∷ [];
    grown = grown_more M.grew s g.added r t u g.grown h;
    held = is ∙ ap (insert r) g.held ∙ sym (joined_more (M.rows s) g.added r);
  }

  adds_grew : (s : S) {n : ℕ} {t u : S} → Grew s t → Adds M.rows M.grew n t u → Grew s u
  adds_grew s g Adds.none = g
  adds_grew s g (Adds.more {t = t} {u = u} r a miss below is h) = grew_more s t u r (adds_grew s g a) h is

  put_grew : (s t u : S) (n m : ℕ) (r : Row) (a : Result Outcome RunFault) → Grew s t → Putting M t n r a u m → Grew s u
  put_grew s t u n m r (Ok Held) g p = grew_same s t u g p.changed
  put_grew s t u n m r (Ok Added) g p = grew_more s t u r g p.changed p.after
  put_grew s t u n m r (Err f) g p = grew_same s t u g p.changed

  advance_grew : (s t u : S) (b : ℕ) (a : Result Progress RunFault) → Grew s t → Advancing M b t a u → Grew s u
  advance_grew s t u b (Ok (Finished n)) g h = adds_grew s g h.1
  advance_grew s t u b (Ok (Spent n)) g h = adds_grew s g h.1
  advance_grew s t u b (Err NotEmpty) g h = absurd h
  advance_grew s t u b (Err NotFact) g h = absurd h
  advance_grew s t u b (Err RowsMissing) g h = absurd h
  advance_grew s t u b (Err (Refused x)) g h = absurd h
  advance_grew s t u b (Err (Stopped x)) g h = adds_grew s g h.1

  act_grew : (s t u : S) (p q : Phase) (d : Deed) (e : Event) → Grew s t → Act M p t d e q u → Grew s u
  act_grew s t u p q d e g (Act.not_made x) = g
  act_grew s t u p q d e g (Act.puts n m r a put) = put_grew s t u n m r a g put
  act_grew s t u p q d e g (Act.starts n) = g
  act_grew s t u p q d e g (Act.advances b a h k) = advance_grew s t u b a g h
  act_grew s t u p q d e g (Act.settles x y) = g
  act_grew s t u p q d e g (Act.not_settled x) = g
  act_grew s t u p q d e g (Act.reads r a x) = g

  turn_grew : (s t u : S) (ps qs : List Phase) (o : Order) (e : Event) → Grew s t → Turn M ps t o e qs u → Grew s u
  turn_grew s t u ps qs o e g (Turn.began i x y) = g
  turn_grew s t u ps qs o e g (Turn.not_begun i x) = g
  turn_grew s t u ps qs o e g (Turn.acts i d q a) = act_grew s t u _ q d e g a

  pub trace_grew : {os : List Order} {es : List Event} {ps : List Phase} {s t : S} → Trace M os es ps s t → Grew s t
  trace_grew (Trace.opened {s = s}) = grew_none s
  trace_grew (Trace.then {ps = ps} {qs = qs} {s = s} {t = t} {u = u} o e before turn) = turn_grew s t u ps qs o e (trace_grew before) turn

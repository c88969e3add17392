-- What the calls of a run answer, and what they do to the table.
use Rattle.std.specs.Prelude.{◌≡◌, ℕ, ◌+◌, ◌-◌, ◌^◌, min, cond, List, [], ◌∷◌, Ok, Err, Option, Result, nat_lt}
use Rattle.rows.specs.declared.row.Row.{Row}
use Rattle.rows.specs.declared.answer.Limits.{Limits}
use Rattle.rows.specs.declared.answer.Outcome.{Outcome}
use Rattle.rows.specs.declared.answer.Outcome.TheVariants.{Held, Added}
use Rattle.rows.specs.declared.answer.TableFault.{TableFault}
use Rattle.rows.specs.Rows.{insert, first_from, of_relation}
use Rattle.rows.specs.Tables.{Meaning, add_answer}
use Rattle.datalog.specs.declared.progress.Progress.{Progress}
use Rattle.output.specs.Completion.{Missing}
use Rattle.output.specs.Progressing.{Completing}
use Rattle.analysis.specs.declared.fault.Refusal.{Refusal}
use Rattle.analysis.specs.declared.fault.RunFault.{RunFault}
use Rattle.analysis.specs.declared.fault.RunFault.TheVariants.{NotEmpty, NotFact, RowsMissing, Refused, Stopped}
use Rattle.analysis.specs.declared.state.Filling.{Filling}
use Rattle.analysis.specs.declared.state.Running.{Running}
use Rattle.analysis.specs.declared.state.Done.{Done}
use Rattle.analysis.specs.declared.state.Unfinished.{Unfinished}

-- begin: the table is empty, or the call is refused.
abbrev pub begun : List Row → Result Filling RunFault
begun [] = Ok (record { facts = 0 })
begun (r ∷ rs) = Err NotEmpty

-- put: a relation above 17 is refused; then the table answers, its refusal carried whole with the number of facts so far.
abbrev pub counted : ℕ → Result Outcome TableFault → Result Outcome Refusal
counted n (Ok o) = Ok o
counted n (Err e) = Err (record { facts = n; fault = e })

abbrev pub passed : ℕ → Result Outcome TableFault → Result Outcome RunFault
passed n (Ok o) = Ok o
passed n (Err e) = Err (Refused (record { facts = n; fault = e }))

abbrev pub put_answer : Limits → List Row → ℕ → Row → Result Outcome RunFault
put_answer m rows n r = cond (nat_lt 17 r.relation) (Err NotFact) (passed n (add_answer m rows r))

abbrev pub facts_after : ℕ → Result Outcome RunFault → ℕ
facts_after n (Ok Held) = n
facts_after n (Ok Added) = min (n + 1) (2 ^ 32 - 1)
facts_after n (Err e) = n

abbrev pub rows_put : List Row → Row → Result Outcome RunFault → List Row
rows_put rows r (Ok Held) = rows
rows_put rows r (Ok Added) = insert r rows
rows_put rows r (Err e) = rows

-- a table, and the memory that it stands on, after a put: as it was, unless the row was added
abbrev pub PutChanged : {S : Type 0} → (S → Row → S → Type 0) → S → Row → Result Outcome RunFault → S → Type 0
PutChanged grew s r (Ok Held) t = t ≡ s
PutChanged grew s r (Ok Added) t = grew s r t
PutChanged grew s r (Err e) t = t ≡ s

pub record Putting {S : Type 0} (M : Meaning S) (s : S) (n : ℕ) (r : Row) (a : Result Outcome RunFault) (t : S) (n' : ℕ) : Type 0 where
  pub answer : a ≡ put_answer (M.bounds s) (M.rows s) n r
  pub facts : n' ≡ facts_after n a
  pub after : M.rows t ≡ rows_put (M.rows s) r a
  pub kept : M.bounds t ≡ M.bounds s
  pub changed : PutChanged M.grew s r a t

-- advance: missing rows are added; the only refusal is the table's, whole, with the relation and the number of rows added.
abbrev pub Stopping : {S : Type 0} → Meaning S → ℕ → S → RunFault → S → Type 0
Stopping M budget s NotEmpty t = ⊥
Stopping M budget s NotFact t = ⊥
Stopping M budget s RowsMissing t = ⊥
Stopping M budget s (Refused refusal) t = ⊥
Stopping M budget s (Stopped stop) t = Completing M budget s (Err stop) t

abbrev pub Advancing : {S : Type 0} → Meaning S → ℕ → S → Result Progress RunFault → S → Type 0
Advancing M budget s (Ok p) t = Completing M budget s (Ok p) t
Advancing M budget s (Err f) t = Stopping M budget s f t

-- settle: Done if no row is missing, or else the run is handed back.
abbrev pub Settling : List Row → Running → Result Done Unfinished → Type 0
Settling rows running (Ok done) = (done.facts ≡ running.facts) × ((r : Row) → ¬ Missing rows r)
Settling rows running (Err u) = (u.running ≡ running) × (u.fault ≡ RowsMissing) × ((r : Row) × Missing rows r)

-- read: the least row of the relation asked that is not below the row asked
unfoldable pub read_answer : List Row → Row → Option Row
read_answer rows q = first_from (of_relation q.relation rows) q

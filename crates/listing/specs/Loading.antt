-- Facts read from a file and added to a table, one after another.
use Rattle.std.specs.Prelude.{◌≡◌, ℕ, true, List, ◌++◌, length, Some, None, Ok, Err, Option, Result}
use Rattle.std.specs.List.{AllByRecursion}
use Rattle.rows.specs.declared.row.Row.{Row}
use Rattle.rows.specs.declared.answer.Outcome.{Outcome}
use Rattle.rows.specs.declared.answer.TableFault.{TableFault}
use Rattle.rows.specs.Rows.{has}
use Rattle.rows.specs.Tables.{Meaning, add_answer, rows_after}
use Rattle.rows.specs.Changes.{Changed}
use Rattle.rows.specs.Adding.{Filled, taken}
use Rattle.facts.specs.Format as format
use Rattle.facts.specs.Format.{Fact, file, written, fault_offset, Answered}
use Rattle.analysis.specs.declared.fault.RunFault.{RunFault}
use Rattle.analysis.specs.declared.fault.RunFault.TheVariants.{NotEmpty, NotFact, RowsMissing, Refused, Stopped}
use Rattle.listing.specs.declared.fault.ListingFault.{ListingFault}
use Rattle.listing.specs.declared.fault.ListingFault.TheVariants.{Input, Opening, Reading, Putting, Running, NoMemory}
use Rattle.listing.specs.declared.load.Loaded.{Loaded}

-- The fault of a put is the table's own refusal, whole.
abbrev pub RefusedBy : Result Outcome TableFault → RunFault → Type 0
RefusedBy answer NotEmpty = ⊥
RefusedBy answer NotFact = ⊥
RefusedBy answer RowsMissing = ⊥
RefusedBy answer (Refused refusal) = answer ≡ Err refusal.fault
RefusedBy answer (Stopped stop) = ⊥

module _ {S : Type 0} (M : Meaning S) where
  -- What one record makes of a reader that stands at an offset before some bytes, and of a table s, which becomes t.
  abbrev pub Step : ℕ → List ℕ → S → Result (Option Loaded) ListingFault → ℕ → List ℕ → S → Type 0
  Step at bytes s (Ok None) at' bytes' t = Answered at bytes (Ok None) at' bytes' × (t ≡ s)
  Step at bytes s (Ok (Some x)) at' bytes' t =
      Answered at bytes (Ok (Some x.record)) at' bytes'
      × (Ok x.outcome ≡ add_answer (M.bounds s) (M.rows s) x.record.row)
      × (M.rows t ≡ rows_after (M.rows s) x.record.row (Ok x.outcome))
      × (M.bounds t ≡ M.bounds s)
      × Changed M.grew s x.record.row (Ok x.outcome) t
  Step at bytes s (Err (Reading fault)) at' bytes' t = Answered at bytes (Err fault) at' bytes' × (t ≡ s)
  Step at bytes s (Err (Putting offset fault)) at' bytes' t =
      (r : Row)
      × (Answered at bytes (Ok (Some (record { offset = offset; row = r }))) at' bytes'
      × RefusedBy (add_answer (M.bounds s) (M.rows s) r) fault
      × (t ≡ s))
  Step at bytes s (Err Input) at' bytes' t = ⊥
  Step at bytes s (Err (Opening fault)) at' bytes' t = ⊥
  Step at bytes s (Err (Running fault)) at' bytes' t = ⊥
  Step at bytes s (Err NoMemory) at' bytes' t = ⊥

  -- A table s became t as some facts were added in turn, and none of them was refused.
  pub record Took (s : S) (facts : List Row) (t : S) : Type 0 where
    pub are : AllByRecursion Fact facts
    pub filled : Filled M (M.bounds s) s facts t
    pub held : AllByRecursion (λ r. has (M.rows t) r ≡ true) facts

  -- What loading some bytes into a table s answers, and the table t that it leaves.
  abbrev pub Loading : List ℕ → S → Result ℕ ListingFault → S → Type 0
  -- the bytes are the file of facts, which the table took; n of them it did not hold already
  Loading bytes s (Ok n) t =
      (facts : List Row)
      × (Took s facts t × (bytes ≡ file facts) × (n ≡ length (taken (M.bounds s) (M.rows s) facts)))
  -- the file of facts that the table took comes first, and what follows begins with no record
  Loading bytes s (Err (Reading fault)) t =
      (facts : List Row)
      × ((rest : List ℕ)
      × (Took s facts t × (bytes ≡ file facts ++ rest) × (fault_offset fault ≡ length (file facts)) × format.Refused rest fault))
  -- the file of facts that the table took comes first, and then the record of one that it refuses
  Loading bytes s (Err (Putting offset fault)) t =
      (facts : List Row)
      × ((r : Row)
      × ((rest : List ℕ)
      × (Took s facts t × Fact r × (bytes ≡ file facts ++ (written r ++ rest)) × (offset ≡ length (file facts))
      × RefusedBy (add_answer (M.bounds t) (M.rows t) r) fault)))
  Loading bytes s (Err Input) t = ⊥
  Loading bytes s (Err (Opening fault)) t = ⊥
  Loading bytes s (Err (Running fault)) t = ⊥
  Loading bytes s (Err NoMemory) t = ⊥

-- The derived rows of a facts file.
use Rattle.std.specs.Prelude.{◌≡◌, ℕ, ◌≤◌, true, ◌↔◌, List, [], Ok, Err, Result, ◌≢◌}
use Rattle.std.specs.List.{AllByRecursion}
use Rattle.rows.specs.declared.row.Row.{Row}
use Rattle.rows.specs.Rows.{has, Asc, rest, start}
use Rattle.facts.specs.Format.{Fact, file}
use Rattle.datalog.specs.declared.progress.Progress.{Progress}
use Rattle.datalog.specs.declared.progress.Progress.TheVariants.{Finished}
use Rattle.output.specs.Completion.{Completed}
use Rattle.output.specs.Progressing.{Completing}
use Rattle.analysis.specs.declared.fault.RunFault.{RunFault}
use Rattle.analysis.specs.declared.fault.RunFault.TheVariants.{NotEmpty, NotFact, RowsMissing, Refused, Stopped}
use Rattle.listing.specs.declared.fault.ListingFault.{ListingFault}
use Rattle.listing.specs.declared.fault.ListingFault.TheVariants.{Input, Opening, Reading, Putting, Running, NoMemory}
use Rattle.listing.specs.Loading.{Loading}
use Rattle.rows.specs.Tables.{Meaning}

-- The largest budget.
abbrev pub most : ℕ
most = 4294967295

-- A completion that no budget stopped.
abbrev pub unspent : Result ℕ RunFault → Result Progress RunFault
unspent (Ok n) = Ok (Finished n)
unspent (Err fault) = Err fault

-- The derived rows of some facts: those of the facts' completion that are of derived relations, ascending.
pub record DerivedRows (facts found : List Row) : Type 0 where
  pub ascending : Asc found
  pub all : (r : Row) → (has found r ≡ true) ↔ ((18 ≤ r.relation) × Completed facts r)

-- The bytes are the file of facts, and the rows are those that derive from them.
abbrev pub Lists : List ℕ → List Row → Type 0
Lists bytes found = (facts : List Row) × (AllByRecursion Fact facts × (bytes ≡ file facts) × DerivedRows facts found)

module _ {S : Type 0} (M : Meaning S) where
  -- Why a run that lists some bytes on a table s was refused a call other than a put, and the table u that it leaves: s is not
  -- empty and stays as it was, or it took the file's facts and then refused a derived row.
  abbrev pub Refusing : List ℕ → S → RunFault → S → Type 0
  Refusing bytes s NotEmpty u = (M.rows s ≢ []) × (u ≡ s)
  Refusing bytes s NotFact u = ⊥
  Refusing bytes s RowsMissing u = ⊥
  Refusing bytes s (Refused refusal) u = ⊥
  Refusing bytes s (Stopped stop) u =
      (t : S)
      × ((n : ℕ)
      × (Loading M bytes s (Ok n) t × Completing M most t (Err stop) u))

  -- What listing some bytes on a table s answers, and the table u that it leaves: the table is empty, the facts are loaded, and
  -- then it is completed, as far as nothing is refused.
  abbrev pub Listing : List ℕ → S → Result (List Row) ListingFault → S → Type 0
  Listing bytes s (Ok found) u =
      (t : S)
      × ((n : ℕ)
      × ((k : ℕ)
      × (Loading M bytes s (Ok n) t × Completing M most t (Ok (Finished k)) u
      × (found ≡ rest (start 18) (M.rows u)) × (M.rows s ≡ []))))
  Listing bytes s (Err (Reading fault)) u = Loading M bytes s (Err (Reading fault)) u
  Listing bytes s (Err (Putting offset fault)) u = Loading M bytes s (Err (Putting offset fault)) u
  Listing bytes s (Err (Running fault)) u = Refusing bytes s fault u
  Listing bytes s (Err NoMemory) u = Unit {0}
  Listing bytes s (Err Input) u = ⊥
  Listing bytes s (Err (Opening fault)) u = ⊥

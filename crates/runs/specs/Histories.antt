-- Histories of runs: the calls made and their answers, in their order.
use Rattle.std.specs.Prelude.{ℕ, ◌+◌, List, [], ◌∷◌, Ok, Err, Result}
use Rattle.rows.specs.declared.row.Row.{Row}
use Rattle.rows.specs.Rows.{insert}
use Rattle.datalog.specs.declared.progress.Progress.{Progress}
use Rattle.datalog.specs.declared.progress.Progress.TheVariants.{Finished, Spent}
use Rattle.analysis.specs.declared.fault.RunFault.{RunFault}
use Rattle.analysis.specs.declared.fault.RunFault.TheVariants.{NotEmpty, NotFact, RowsMissing, Refused, Stopped}
use Rattle.runs.specs.declared.script.Event.{Event}
use Rattle.runs.specs.declared.script.Event.TheVariants.{NotMade, Began, Put, Started, Advanced, Settled, Read}

-- The facts accepted: the rows whose put answered added or held, as a set.
abbrev pub accept : Event → List Row → List Row
accept NotMade facts = facts
accept (Began a) facts = facts
accept (Put r (Ok o)) facts = insert r facts
accept (Put r (Err f)) facts = facts
accept Started facts = facts
accept (Advanced b a) facts = facts
accept (Settled a) facts = facts
accept (Read q a) facts = facts

abbrev pub accepted_onto : List Row → List Event → List Row
accepted_onto facts [] = facts
accepted_onto facts (e ∷ es) = accepted_onto (accept e facts) es

abbrev pub accepted : List Event → List Row
accepted es = accepted_onto [] es

-- The additions reported: the n of each advance, refused ones too.
abbrev pub of_fault : RunFault → ℕ
of_fault NotEmpty = 0
of_fault NotFact = 0
of_fault RowsMissing = 0
of_fault (Refused refusal) = 0
of_fault (Stopped stop) = stop.added

abbrev pub of_advance : Result Progress RunFault → ℕ
of_advance (Ok (Finished n)) = n
of_advance (Ok (Spent n)) = n
of_advance (Err f) = of_fault f

abbrev pub reported : Event → ℕ
reported NotMade = 0
reported (Began a) = 0
reported (Put r a) = 0
reported Started = 0
reported (Advanced b a) = of_advance a
reported (Settled a) = 0
reported (Read q a) = 0

abbrev pub additions : List Event → ℕ
additions [] = 0
additions (e ∷ es) = reported e + additions es

-- How often begin was accepted.
abbrev pub begun_by : Event → ℕ
begun_by NotMade = 0
begun_by (Began (Ok u)) = 1
begun_by (Began (Err f)) = 0
begun_by (Put r a) = 0
begun_by Started = 0
begun_by (Advanced b a) = 0
begun_by (Settled a) = 0
begun_by (Read q a) = 0

abbrev pub begins : List Event → ℕ
begins [] = 0
begins (e ∷ es) = begun_by e + begins es

-- Done was reached: some settle gave it.
abbrev pub or_done : Event → Type 0 → Type 0
or_done NotMade D = D
or_done (Began a) D = D
or_done (Put r a) D = D
or_done Started D = D
or_done (Advanced b a) D = D
or_done (Settled (Ok u)) D = Unit {0}
or_done (Settled (Err f)) D = D
or_done (Read q a) D = D

abbrev pub reached : List Event → Type 0
reached [] = ⊥
reached (e ∷ es) = or_done e (reached es)

-- Rows added to a table one after another.
use Rattle.std.specs.Prelude.{◌≡◌, Bool, true, false, cond, List, [], ◌∷◌, Ok, Err, Result}
use Rattle.rows.specs.declared.row.Row.{Row}
use Rattle.rows.specs.declared.answer.Outcome.{Outcome}
use Rattle.rows.specs.declared.answer.Outcome.TheVariants.{Held, Added}
use Rattle.rows.specs.declared.answer.TableFault.{TableFault}
use Rattle.rows.specs.declared.answer.Limits.{Limits}
use Rattle.rows.specs.Rows.{insert}
use Rattle.rows.specs.Tables.{Meaning, add_answer}

-- whether an add put its row in
abbrev pub went_in : Result Outcome TableFault → Bool
went_in (Ok o) = elim o [ Held ↦ false | Added ↦ true ]
went_in (Err e) = false

-- those of some rows that go in, in their order, where each is added in turn to a table that has limits m and holds xs
unfoldable pub taken : Limits → List Row → List Row → List Row
taken m xs [] = []
taken m xs (r ∷ rs) = cond (went_in (add_answer m xs r)) (r ∷ taken m (insert r xs) rs) (taken m xs rs)

-- a set with some rows more
unfoldable pub joined : List Row → List Row → List Row
joined xs [] = xs
joined xs (r ∷ rs) = joined (insert r xs) rs

-- how rows added one after another change a table and the memory that it stands on
abbrev pub Grown : {S : Type 0} → (S → Row → S → Type 0) → S → List Row → S → Type 0
Grown grew s [] t = t ≡ s
Grown {S} grew s (r ∷ rs) t = (m : S) × (grew s r m × Grown grew m rs t)

-- A table s became t as each of the rows rs was added in turn, under the limits m.
pub record Filled {S : Type 0} (M : Meaning S) (m : Limits) (s : S) (rs : List Row) (t : S) : Type 0 where
  pub held : M.rows t ≡ joined (M.rows s) (taken m (M.rows s) rs)
  pub kept : M.bounds t ≡ M.bounds s
  pub grown : Grown M.grew s (taken m (M.rows s) rs) t

-- What a put passes on, where the table adds the row.
use Rattle.std.proofs.Common.{◌≡◌, ℕ, ◌+◌, ◌-◌, ◌^◌, ◌<◌, min, false, ltb, Ok, Result, sym, ◌∙◌, subst, arith}
use Rattle.std.proofs.lemmas.Bool.Decides.{nat_tests}
use Rattle.rows.specs.declared.row.Row.{Row}
use Rattle.rows.specs.declared.answer.Outcome.{Outcome}
use Rattle.rows.specs.declared.answer.Outcome.TheVariants.{Added}
use Rattle.rows.specs.declared.answer.TableFault.{TableFault}
use Rattle.rows.specs.Changes.{Changed}
use Rattle.rows.specs.Tables.{Meaning, add_answer, rows_after}
use Rattle.analysis.specs.Calls.{Putting}

gate : (k : ℕ) → k < 18 → ltb 17 k ≡ false
gate k h = grind (arith, nat_tests)

module _ {S : Type 0} (M : Meaning S) (s t : S) (n n' : ℕ) (r : Row) (fact : r.relation < 18) (kept : M.bounds t ≡ M.bounds s) where
  pub put_added : (res : Result Outcome TableFault) (o : Outcome) → res ≡ Ok Added → o ≡ Added → res ≡ add_answer (M.bounds s) (M.rows s) r → M.rows t ≡ rows_after (M.rows s) r res → Changed M.grew s r res t
      → n' ≡ min (n + 1) (2 ^ 32 - 1) → Putting M s n r (Ok o) t n'
  unfolding rows_after
  put_added res o e added i after changed f =
      subst (λ (p : Outcome). Putting M s n r (Ok p) t n') (sym added) (record {
        answer = rw (gate r.relation fact, sym i ∙ e);
        facts = f;
        after = subst (λ (x : Result Outcome TableFault). M.rows t ≡ rows_after (M.rows s) r x) e after;
        kept = kept;
        changed = subst (λ (x : Result Outcome TableFault). Changed M.grew s r x t) e changed;
      })

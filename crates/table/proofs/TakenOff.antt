-- A quota taken off: what the quota was filled with, the table below was filled with.
use Rattle.std.proofs.Common.{◌≡◌, List, sym, subst}
use Rattle.rows.specs.declared.row.Row.{Row}
use Rattle.rows.specs.declared.answer.Limits.{Limits}
use Rattle.rows.specs.Adding.{Filled}
use Rattle.rows.specs.Quotas.{capped}
use Rattle.rows.proofs.Addings.{filled_under}
use Rattle.table.specs.declared.maxima.Maxima.{Maxima}
use Rattle.table.specs.declared.quota.Quota.{Quota}
use Rattle.rows.specs.Tables.{Meaning, standing}

module _ {S : Type 0} (M : Meaning S) (steady : (s : S) (r : Row) (t : S) → M.grew s r t → M.bounds t ≡ M.bounds s) where
  abbrev grown : Quota S → Row → Quota S → Type 0
  grown q r p = M.grew q.below r p.below × (p.own ≡ q.own)

  abbrev limits : Quota S → Limits
  limits q = capped q.own.most (M.bounds q.below)

  -- `more` is what stands on the quota
  pub taken_off : (more : Limits → Limits) (below : S) (own : Maxima) (q : Quota S) (rs : List Row) (p : Quota S) (t : S)
      → q.below ≡ below → q.own ≡ own → t ≡ p.below
      → Filled (standing (λ x. x.below) M limits grown) (more (limits q)) q rs p → Filled M (more (capped own.most (M.bounds below))) below rs t
  taken_off more below own q rs p t b o e f =
      let u = filled_under {S = S} {Q = Quota S} M limits grown (λ x. x.below) (λ x r y h. h.0) steady (more (limits q)) q rs p f in
      subst (λ z. Filled M (more (capped own.most (M.bounds below))) below rs z) (sym e)
      (subst (λ (m : Maxima). Filled M (more (capped m.most (M.bounds below))) below rs p.below) o
      (subst (λ (s : S). Filled M (more (capped q.own.most (M.bounds s))) s rs p.below) b u))

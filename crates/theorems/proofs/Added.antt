-- Missing rows added one after the other until none is missing: as many as the derived rows.
use Rattle.std.proofs.Common.{◌≡◌, ℕ, suc, ◌↔◌, List, [], ◌∷◌, length, sym, refl, ap, subst, ⊎_elim}
use Rattle.rows.specs.declared.row.Row.{Row}
use Rattle.rows.specs.Rows.{has, insert}
use Rattle.datalog.specs.Contents.{Among}
use Rattle.datalog.proofs.Truths.{decide}
use Rattle.datalog.proofs.Engine.{has_here, has_there, has_cons, has_none, complete_keeps}
use Rattle.datalog.proofs.Closes.{insert_cases, insert_keeps, insert_here}
use Rattle.output.specs.Program.{program}
use Rattle.output.specs.Completion.{Missing, Adds}
use Rattle.output.proofs.Completing.{adds_completed}
use Rattle.theorems.specs.Numbers.{Distinct, Number}
use Rattle.theorems.specs.Definitions.{AdditionsNumber}

-- n distinct rows are those of one list that another lacks
record Gained (before after : List Row) (n : ℕ) : Type 0 where
  gains : List Row
  distinct : Distinct gains
  many : length gains ≡ n
  each : (r : Row) → (Among gains r ↔ (Among after r × (¬ Among before r)))

module _ {S : Type 0} (rows : S → List Row) (grew : S → Row → S → Type 0) where
  adds_keep : {n : ℕ} {s t : S} → Adds rows grew n s t → (r : Row) → Among (rows s) r → Among (rows t) r
  adds_keep Adds.none r h = h
  adds_keep (Adds.more x a miss full is grown) r h = subst (λ l. Among l r) (sym is) (insert_keeps x r _ (adds_keep a r h))

  gained : {n : ℕ} {s t : S} → Adds rows grew n s t → Gained (rows s) (rows t) n
  gained Adds.none = record { gains = []; distinct = tt; many = refl; each = λ r. (λ h. absurd (has_none r h), λ h. absurd (h.1 h.0)) }
  gained (Adds.more {n = n} {s = s} {t = t} {u = u} x a miss full is grown) =
      let w = gained a in
      let l : List Row = w.gains in
      let to : (r : Row) → Among (x ∷ l) r → Among (rows u) r × (¬ Among (rows s) r) =
      λ r h. has_cons x l r h
      (λ e. (
        subst (λ k. Among k r) (sym is) (subst (λ y. Among (insert x (rows t)) y) e (insert_here x (rows t))),
        λ k. miss.1 (subst (Among (rows t)) (sym e) (adds_keep a r k)),
      ))
      (λ m. let v = (w.each r).0 m in (subst (λ k. Among k r) (sym is) (insert_keeps x r (rows t) v.0), v.1)) in
      let from : (r : Row) → Among (rows u) r × (¬ Among (rows s) r) → Among (x ∷ l) r =
      λ r h. ⊎_elim (λ e. subst (Among (x ∷ l)) e (has_here x l)) (λ m. has_there x l r ((w.each r).1 (m, h.1)))
      (insert_cases x r (rows t) (subst (λ k. Among k r) is h.0)) in
      record {
        gains = x ∷ l;
        distinct = (λ m. miss.1 ((w.each x).0 m).0, w.distinct);
        many = ap suc w.many;
        each = λ r. (to r, from r);
      }

  pub adds_number : {n : ℕ} {s t : S} → Adds rows grew n s t → ((r : Row) → ¬ Missing (rows t) r) → Number (Missing (rows s)) n
  adds_number {s = s} {t = t} a none =
      let w = gained a in
      let v = adds_completed rows grew a in
      record {
        rows = w.gains;
        distinct = w.distinct;
        lists = λ r. (
          λ m. (w.each r).1 (⊎_elim (λ h. h) (λ h. absurd (none r (v.1 r m.0, h))) (decide (has (rows t) r)), m.1),
          λ h. let g = (w.each r).0 h in (v.0 r (complete_keeps program (Among (rows t)) r g.0), g.1),
        );
        many = w.many;
      }

pub additions_number : AdditionsNumber
additions_number n before after a none = adds_number (λ rows. rows) (λ s r t. Unit {0}) a none

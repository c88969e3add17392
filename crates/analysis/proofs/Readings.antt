-- The least row from a row on, kept only if it is of the relation asked.
use Rattle.std.proofs.Common.{◌≡◌, ◌≤◌, cond, eqb, List, Some, None, Option, sym, ap, ◌∙◌, ⊎_elim, arith}
use Rattle.std.proofs.lemmas.Bool.Decides.{eqb_tells}
use Rattle.std.proofs.lemmas.Map.Entries.{option_filter}
use Rattle.rows.specs.declared.row.Row.{Row}
use Rattle.rows.specs.declared.answer.Limits.{Limits}
use Rattle.rows.specs.Rows.{first_from}
use Rattle.rows.specs.Tables.{Lawful}
use Rattle.rows.proofs.Order.{not_before_relation}
use Rattle.rows.proofs.Scan.{first_above}
use Rattle.rows.proofs.Asked.{read_some, read_none, read_past}
use Rattle.analysis.specs.Calls.{read_answer}

pub read_kept : (q : Row) (m : Limits) (xs : List Row) → Lawful m xs → (o : Option Row) → o ≡ first_from xs q → read_answer xs q ≡ option_filter (λ (r : Row). eqb r.relation q.relation) o
unfolding read_answer
read_kept q m xs a None e = read_none q.relation q xs (sym e)
read_kept q m xs a (Some r) e =
    ⊎_elim
    (λ y. read_some q.relation q r xs (sym e) y.1 ∙ sym (ap (λ b. cond b (Some r) None) y.0))
    (λ n. let up : q.relation ≤ r.relation = not_before_relation r q (first_above q r xs (sym e)) in
    let ne : r.relation ≡ q.relation → ⊥ = n.1 in
    read_past q.relation q r xs a.ascending (sym e) (omega arith) ∙ sym (ap (λ b. cond b (Some r) None) n.0))
    (eqb_tells r.relation q.relation)

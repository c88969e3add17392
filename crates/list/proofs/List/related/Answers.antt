use Rattle.std.proofs.Common.{◌≡◌, ◌+◌, ◌==◌, true, false, [], count_by, take, refl, sym, ap, ◌∙◌, arith, rules}
use Rattle.std.proofs.lemmas.List.{take_all}
use Rattle.std.proofs.lemmas.List.Sums.{count_by_more_yes, count_by_more_no}
use Rattle.std.proofs.lemmas.Bool.Decides.{nat_tests}
use Rattle.rows.specs.Words.{row_of}
use Rattle.list.proofs.List.related.Goals as goal
use Rattle.list.proofs.List.related.Goals.{then-row-relation, else-row-relation}

pub loop-words-init : goal.loop-words-init
loop-words-init c = (refl, omega arith)

pub overflow_add-n : goal.overflow_add-n
overflow_add-n c = let i = c.loop-words.invariant in search rules

pub loop-words-preserved : goal.loop-words-preserved
loop-words-preserved c =
    let i = c.loop-words.invariant in
    let e = ap (λ r. r.relation) c.row.ensures in
    elim c.if-row-relation.branch [
      | then-row-relation w ↦
          let h = w.if-row-relation.true in
          (w.n-is ∙ ap (λ n. n + 1) i.0 ∙ sym (count_by_more_yes (λ w. (row_of w).relation == c.args.relation) c.rows-words-items.result.now c.loop-words.words-index [] c.loop-words-test.true (grind (arith, nat_tests, e, h))), omega (arith, w.n-is, i.1))
      | else-row-relation w ↦
          let h = w.if-row-relation.false in
          (w.n-is ∙ i.0 ∙ sym (count_by_more_no (λ w. (row_of w).relation == c.args.relation) c.rows-words-items.result.now c.loop-words.words-index [] c.loop-words-test.true (grind (arith, nat_tests, e, h))), omega (arith, w.n-is, i.1))
    ]

pub returns : goal.returns
returns c =
    c.loop-words.invariant.0
    ∙ ap (count_by (λ w. (row_of w).relation == c.args.relation)) (take_all c.loop-words.words-index c.rows-words-items.result.now c.loop-words-test.false ∙ c.rows-words-items.ensures.chunks)

use Rattle.std.proofs.Common.{◌∙◌, arith, rules}
use Rattle.facts.proofs.Bytes.{code_bytes, each_front}
use Rattle.facts.proofs.reader.code.Goals as goal

pub returns : goal.returns
returns c =
    let e = c.in_ok-low.ensures.cases in
    (search rules, code_bytes _ _ _ _ (omega arith) (λ i. omega (arith, c.type_inv.bytes i)) (each_front _ _ (omega arith) e.0) e.1 (c.from.ensures ∙ c.from_le_bytes.ensures))

use Rattle.std.proofs.Common.{◌≡◌, ℕ, ◌<◌, ◌≤◌, List, [], ◌∷◌, ◌≢◌, Some, None, Option, MatchOption, rules, tests, arith}
use Rattle.std.proofs.lemmas.Iterator.{first_from_Range}
use Rattle.facts.specs.Format.{mark}
use Rattle.facts.proofs.mark.relation_of.Goals as goal

first : (m : List ℕ) (o : Option ℕ) → MatchOption o ((k : ℕ) → 0 ≤ k → k < 18 → mark k ≢ m) (λ k. (0 ≤ k) × (k < 18) × (mark k ≡ m) × ((j : ℕ) → 0 ≤ j → j < k → mark j ≢ m)) → MatchOption o ((k : ℕ) → k < 18 → mark k ≢ m) (λ k. (k < 18) × (mark k ≡ m))
first m None h = λ k. h k (omega arith)
first m (Some k) h = (h.1, h.2)

pub returns : goal.returns
returns c =
    let m = c.args.first ∷ c.args.second ∷ [] in
    first m c.find.result
    (first_from_Range _ _ _ c.find.result (λ k. mark k ≡ m) (λ k. mark k ≢ m) c.find.ensures.ran
    (λ x q k. search (rules, tests))
    (λ x q k. search (rules, tests)))

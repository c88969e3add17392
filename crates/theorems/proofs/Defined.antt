-- The laws of the definitions, over lists of rows.
use Rattle.std.proofs.Common.{◌≡◌, Bool, true, false, T, List, [], ◌∷◌, sym, ◌∙◌}
use Rattle.rows.specs.declared.row.Row.{Row}
use Rattle.datalog.specs.Contents.{Content, Among, Least}
use Rattle.datalog.specs.Datalog.{Rule, Proposes, least, complete}
use Rattle.datalog.proofs.Truths.{T_is, not_T}
use Rattle.datalog.proofs.Engine.{Sub, some_mono, least_closed, least_inside, complete_same, complete_keeps}
use Rattle.datalog.proofs.Complete.{In, complete_below, complete_closed, complete_induct}
use Rattle.output.specs.Program.{program, rule_of}
use Rattle.output.specs.Completion.{Completed, Missing}
use Rattle.output.specs.Ruled.{program_stratified, rule_in}
use Rattle.output.proofs.Completing.{joined_completed}
use Rattle.theorems.specs.Definitions.{LeastHas, LeastClosed, LeastBelow, LeastUnique, LeastIsLeast, CompletionHas, CompletionClosed, CompletionLeast, CompletionFacts, CompletionOne, CompletedTwice, CompletionKept, OneNumber}
use Rattle.theorems.proofs.Numbered.{one_number}

pub least_has : LeastHas
least_has R rows r h = Least.given h

pub closed_least : LeastClosed
closed_least R rows r p = least_closed R (Among rows) r p

pub least_below : LeastBelow
least_below R rows set h c r m = least_inside R (Among rows) (λ s. T (set s)) h c m

same_test : (a b : Bool) → (T a → T b) → (T b → T a) → a ≡ b
same_test true b f g = sym (T_is b (f tt))
same_test false b f g = sym (not_T b g)

pub least_unique : LeastUnique
least_unique R rows set other a b r =
    same_test (set r) (other r) (a.below other b.has b.closed r) (b.below set a.has a.closed r)

pub least_is_least : LeastIsLeast
least_is_least R rows set e = record {
  has = λ r h. (e r).0 (Least.given h);
  closed = λ r p. (e r).0 (least_closed R (Among rows) r
      (some_mono (λ s. T (set s)) (least R (Among rows)) (Among rows) (Among rows) (λ s k. (e s).1 k) (λ s k. k) R.clauses r p));
  below = λ other h c r k. least_below R rows other h c r ((e r).1 k);
}

pub completion_has : CompletionHas
completion_has rows = complete_keeps program (Among rows)

pub completion_closed : CompletionClosed
completion_closed rows k low high r p = complete_closed (rule_of k) 18 program program_stratified (rule_in k low high).0 (Among rows) r p

pub completion_least : CompletionLeast
completion_least rows k low high set base step r e m =
    let at = rule_in k low high in
    complete_induct (rule_of k) (λ s. T (set s)) 18 program program_stratified at.0 (Among rows)
    (λ s g h. base s (g ∙ at.1) h)
    (λ s p. step s (some_mono
    (λ t. Completed rows t × (t.relation ≡ (rule_of k).relation → T (set t)))
    (λ t. Completed rows t × (t.relation ≡ k → T (set t))) (Completed rows) (Completed rows)
    (λ t h. (h.0, λ g. h.1 (g ∙ sym at.1))) (λ t h. h) (rule_of k).clauses s p))
    r (e ∙ sym at.1) m

pub completion_facts : CompletionFacts
completion_facts rows r h m = complete_below 18 program program_stratified (Among rows) r h m

pub completion_one : CompletionOne
completion_one rows others e r = (
  λ m. complete_same program (Among rows) (Among others) (λ s. (e s).0) (λ s. (e s).1) r m,
  λ m. complete_same program (Among others) (Among rows) (λ s. (e s).1) (λ s. (e s).0) r m,
)

-- To a content that is closed under each of the rules, completing adds nothing.
closed_complete : (Rs : List Rule) (C : Content) → ((R : Rule) → In R Rs → (r : Row) → Proposes R C C r → C r) → Sub (complete Rs C) C
closed_complete [] C f r m = m
closed_complete (R ∷ Rs) C f r m =
    closed_complete Rs C (λ Q i. f Q (In.there i)) r
    (complete_same Rs (least R C) C (λ s k. least_inside R C C (λ t h. h) (f R In.here) k) (λ s k. Least.given k) r m)

pub completed_twice : CompletedTwice
completed_twice rows whole e r =
    let C : Content = Completed rows in (
      λ m. (e r).0 (closed_complete program C (λ R i s p. complete_closed R 18 program program_stratified i (Among rows) s p) r
          (complete_same program (Among whole) C (λ s. (e s).1) (λ s. (e s).0) r m)),
      λ m. complete_keeps program (Among whole) r m,
    )

pub completion_kept : CompletionKept
completion_kept rows r m s = let j = joined_completed rows r m in (j.0 s, j.1 s)

pub one_derived : OneNumber
one_derived rows = one_number (Missing rows)

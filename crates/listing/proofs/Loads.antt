-- A file loaded record by record: what the table has taken so far.
use Rattle.std.proofs.Common.{◌≡◌, ℕ, ◌+◌, ◌<◌, ◌≤◌, true, false, cond, List, [], ◌∷◌, ◌++◌, length, Some, None, Ok, Err, Option, Result, sym, refl, ap, ◌∙◌, subst, append_assoc, append-nil, add-zero, arith, length-append}
use Rattle.std.specs.List.{AllByRecursion}
use Rattle.std.proofs.ByRecursion.{All-push, All-weaker}
use Rattle.std.proofs.lemmas.Bool.Decides.{nat_tests}
use Rattle.rows.specs.declared.row.Row.{Row}
use Rattle.rows.specs.declared.answer.Limits.{Limits}
use Rattle.rows.specs.declared.answer.Outcome.{Outcome}
use Rattle.rows.specs.declared.answer.Outcome.TheVariants.{Held, Added}
use Rattle.rows.specs.Rows.{has}
use Rattle.rows.specs.Changes.{Changed}
use Rattle.rows.specs.Tables.{Meaning, add_answer, rows_after}
use Rattle.rows.specs.Adding.{taken, went_in}
use Rattle.rows.proofs.Sets.{has_insert}
use Rattle.rows.proofs.Order.{same_refl}
use Rattle.rows.proofs.Addings.{filled_none, filled_more, taken_counts}
use Rattle.facts.specs.declared.record.Record.{Record}
use Rattle.facts.specs.Format.{written, Fact, file, Answered}
use Rattle.facts.proofs.Files.{written_long, file_push}
use Rattle.analysis.specs.declared.fault.RunFault.{RunFault}
use Rattle.analysis.specs.Calls as calls
use Rattle.analysis.specs.Calls.{passed, put_answer}
use Rattle.listing.specs.declared.fault.ListingFault.{ListingFault}
use Rattle.listing.specs.declared.fault.ListingFault.TheVariants.{Input, Opening, Reading, Putting, Running, NoMemory}
use Rattle.listing.specs.declared.load.Loaded.{Loaded}
use Rattle.listing.specs.Loading.{RefusedBy, Step, Took, Loading}

-- an add that is not refused leaves its row held, and every row that was

pub now_held : (m : Limits) (xs : List Row) (r : Row) (o : Outcome) → Ok o ≡ add_answer m xs r → has (rows_after xs r (Ok o)) r ≡ true
unfolding rows_after add_answer
now_held m xs r Held e = grind (arith, nat_tests)
now_held m xs r Added e = grind (arith, nat_tests, has_insert, same_refl)

pub still_held : (xs : List Row) (r q : Row) (o : Outcome) → has xs q ≡ true → has (rows_after xs r (Ok o)) q ≡ true
unfolding rows_after
still_held xs r q Held h = h
still_held xs r q Added h = grind (arith, nat_tests, has_insert)

-- the put of a fact answers what the table's add does

fact_answer : (m : Limits) (xs : List Row) (n : ℕ) (r : Row) (o : Outcome) → r.relation < 18 → Ok o ≡ put_answer m xs n r → Ok o ≡ add_answer m xs r
fact_answer m xs n r o f e = grind (arith, nat_tests)

module _ {S : Type 0} (M : Meaning S) (s t : S) (n n' : ℕ) (r : Row) (fact : r.relation < 18) where
  pub put_took : (o : Outcome) → calls.Putting M s n r (Ok o) t n'
      → (Ok o ≡ add_answer (M.bounds s) (M.rows s) r) × (M.rows t ≡ rows_after (M.rows s) r (Ok o)) × (M.bounds t ≡ M.bounds s) × Changed M.grew s r (Ok o) t
  unfolding rows_after
  put_took Held h = (fact_answer _ _ n r Held fact h.answer, h.after, h.kept, h.changed)
  put_took Added h = (fact_answer _ _ n r Added fact h.answer, h.after, h.kept, h.changed)

module _ {S : Type 0} (M : Meaning S) where
  -- a record that is read and put
  pub step_took : (at at' : ℕ) (left left' : List ℕ) (s t : S) (n n' : ℕ) (o : Option Record) (x : Record) (a : Result Outcome RunFault) (k : Outcome)
      → Answered at left (Ok o) at' left' → o ≡ Some x → calls.Putting M s n x.row a t n' → a ≡ Ok k
      → Step M at left s (Ok (Some (record { «record» = x; outcome = k }))) at' left' t
  step_took at at' left left' s t n n' o x a k stands is h e =
      let b : Answered at left (Ok (Some x)) at' left' = subst (λ p. Answered at left (Ok p) at' left') is stands in
      let p = put_took M s t n n' x.row b.1.0 k (subst (λ z. calls.Putting M s n x.row z t n') e h) in (b, p.0, p.1, p.2, p.3)

module _ {S : Type 0} (M : Meaning S) where
  -- The table took some facts, whose file stood before the offset; the rest is still to come.
  pub record Reached (bytes : List ℕ) (s : S) (n at : ℕ) (left : List ℕ) (t : S) : Type 0 where
    pub facts : List Row
    pub took : Took M s facts t
    pub first : bytes ≡ file facts ++ left
    pub long : at ≡ length (file facts)
    pub count : n ≡ length (taken (M.bounds s) (M.rows s) facts)
    pub few : n ≤ at

  pub begins : (bytes : List ℕ) (s : S) (at : ℕ) (left : List ℕ) → left ≡ bytes → at ≡ 0 → Reached bytes s 0 at left s
  unfolding taken
  begins bytes s at left e z =
      record {
        facts = [];
        took = record { are = tt; filled = filled_none M s; held = tt };
        first = sym e;
        long = z;
        count = refl;
        few = omega arith;
      }

  pub one_more : (bytes : List ℕ) (s : S) (n at at' : ℕ) (left left' : List ℕ) (t u : S) (x : Loaded)
      → Reached bytes s n at left t → Step M at left t (Ok (Some x)) at' left' u
      → Reached bytes s (n + cond (went_in (Ok x.outcome)) 1 0) at' left' u
  one_more bytes s n at at' left left' t u x b h =
      let r = x.record.row in
      let a = h.0 in
      let f = b.took.filled in
      let counts = taken_counts M s b.facts t r (Ok x.outcome) f h.1 in
      let long = written_long r a.1 in
      let one : cond (went_in (Ok x.outcome)) 1 0 ≤ 1 = elim (went_in (Ok x.outcome)) as (λ w. cond w 1 0 ≤ 1) [ true ↦ omega arith | false ↦ omega arith ] in
      record {
        facts = b.facts ++ r ∷ [];
        took =
            record {
              are = All-push Fact b.facts r b.took.are a.1;
              filled = filled_more M s b.facts t r u (Ok x.outcome) f h.1 h.2 h.3 h.4;
              held =
                  subst (λ ys. AllByRecursion (λ q. has ys q ≡ true) (b.facts ++ r ∷ [])) (sym h.2)
                  (All-push (λ q. has (rows_after (M.rows t) r (Ok x.outcome)) q ≡ true) b.facts r
                  (All-weaker (λ q. has (M.rows t) q ≡ true) (λ q. has (rows_after (M.rows t) r (Ok x.outcome)) q ≡ true) (λ q k. still_held (M.rows t) r q x.outcome k) b.facts b.took.held)
                  (now_held (M.bounds t) (M.rows t) r x.outcome h.1));
            };
        first =
            b.first ∙ ap (λ z. file b.facts ++ z) a.2 ∙ sym (append_assoc (file b.facts) (written r) left')
            ∙ ap (λ z. z ++ left') (sym (file_push b.facts r));
        long =
            let l : length (file (b.facts ++ r ∷ [])) ≡ length (file b.facts) + length (written r) =
            ap length (file_push b.facts r) ∙ length-append (file b.facts) (written r) in
            omega (arith, l, a.3, b.long);
        count = ap (λ k. k + cond (went_in (Ok x.outcome)) 1 0) b.count ∙ sym counts;
        few = omega (arith, b.few, a.3);
      }

  pub loaded_all : (bytes : List ℕ) (s : S) (n at at' : ℕ) (left left' : List ℕ) (t u : S)
      → Reached bytes s n at left t → Step M at left t (Ok None) at' left' u → Loading M bytes s (Ok n) u
  loaded_all bytes s n at at' left left' t u b h =
      (b.facts, (subst (λ v. Took M s b.facts v) (sym h.1) b.took, b.first ∙ ap (λ z. file b.facts ++ z) h.0.0 ∙ append-nil (file b.facts), b.count))

  pub loaded_part : (bytes : List ℕ) (s : S) (n at at' : ℕ) (left left' : List ℕ) (t u : S) (fault : ListingFault)
      → Reached bytes s n at left t → Step M at left t (Err fault) at' left' u → Loading M bytes s (Err fault) u
  loaded_part bytes s n at at' left left' t u (Reading fault) b h =
      (b.facts, (left, (subst (λ v. Took M s b.facts v) (sym h.1) b.took, b.first, h.0.0 ∙ b.long, h.0.1)))
  loaded_part bytes s n at at' left left' t u (Putting offset fault) b h =
      let r = h.0 in
      let a = h.1.0 in
      let e = h.1.2 in (
        b.facts,
        (
          r,
          (
            left',
            (
              subst (λ v. Took M s b.facts v) (sym e) b.took,
              a.1,
              b.first ∙ ap (λ z. file b.facts ++ z) a.2,
              a.0 ∙ b.long,
              subst (λ v. RefusedBy (add_answer (M.bounds v) (M.rows v) r) fault) (sym e) h.1.1,
            ),
          ),
        ),
      )
  loaded_part bytes s n at at' left left' t u Input b h = absurd h
  loaded_part bytes s n at at' left left' t u (Opening fault) b h = absurd h
  loaded_part bytes s n at at' left left' t u (Running fault) b h = absurd h
  loaded_part bytes s n at at' left left' t u NoMemory b h = absurd h

  -- what is left gets shorter
  pub shorter : (at at' : ℕ) (left left' : List ℕ) (t u : S) (x : Loaded) → Step M at left t (Ok (Some x)) at' left' u → length left' < length left
  shorter at at' left left' t u x h =
      omega (arith, written_long x.record.row h.0.1, ap length h.0.2, length-append (written x.record.row) left')

  -- the same of what a call answered, by whether the row went in
  pub one_added : (bytes : List ℕ) (s : S) (n at at' : ℕ) (left left' : List ℕ) (t u : S) (o : Option Loaded) (x : Loaded)
      → Reached bytes s n at left t → Step M at left t (Ok o) at' left' u → o ≡ Some x → x.outcome ≡ Added
      → Reached bytes s (n + 1) at' left' u
  one_added bytes s n at at' left left' t u o x b h is new =
      subst (λ k. Reached bytes s (n + cond (went_in (Ok k)) 1 0) at' left' u) new
      (one_more bytes s n at at' left left' t u x b (subst (λ p. Step M at left t (Ok p) at' left' u) is h))

  pub one_held : (bytes : List ℕ) (s : S) (n at at' : ℕ) (left left' : List ℕ) (t u : S) (o : Option Loaded) (x : Loaded)
      → Reached bytes s n at left t → Step M at left t (Ok o) at' left' u → o ≡ Some x → x.outcome ≡ Held
      → Reached bytes s n at' left' u
  one_held bytes s n at at' left left' t u o x b h is old =
      subst (λ k. Reached bytes s k at' left' u) (add-zero n)
      (subst (λ k. Reached bytes s (n + cond (went_in (Ok k)) 1 0) at' left' u) old
      (one_more bytes s n at at' left left' t u x b (subst (λ p. Step M at left t (Ok p) at' left' u) is h)))

pub ruleset loads = (begins, one_added, one_held, loaded_all, loaded_part, shorter)

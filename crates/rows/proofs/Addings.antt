-- Rows added one after another: one row more at a time.
use Rattle.std.proofs.Common.{◌≡◌, ◌+◌, ◌≤◌, true, false, cond, List, [], ◌∷◌, ◌++◌, length, Ok, Err, Result, sym, refl, ap, ◌∙◌, subst, ⊎_elim, append-nil, arith, length-append}
use Rattle.std.proofs.lemmas.Bool.{cases_Bool}
use Rattle.rows.specs.declared.row.Row.{Row}
use Rattle.rows.specs.declared.answer.Outcome.{Outcome}
use Rattle.rows.specs.declared.answer.Outcome.TheVariants.{Held, Added}
use Rattle.rows.specs.declared.answer.TableFault.{TableFault}
use Rattle.rows.specs.declared.answer.Limits.{Limits}
use Rattle.rows.specs.Rows.{insert}
use Rattle.rows.specs.Tables.{Meaning, standing, add_answer, rows_after}
use Rattle.rows.specs.Changes.{Changed}
use Rattle.rows.specs.Adding.{went_in, taken, joined, Grown, Filled}

module _ (m : Limits) (r : Row) (rs : List Row) where
  pub taken_in : (xs : List Row) → went_in (add_answer m xs r) ≡ true → taken m xs (r ∷ rs) ≡ r ∷ taken m (insert r xs) rs
  unfolding taken
  taken_in xs p = rw p

  pub taken_out : (xs : List Row) → went_in (add_answer m xs r) ≡ false → taken m xs (r ∷ rs) ≡ taken m xs rs
  unfolding taken
  taken_out xs p = rw p

-- what one row more adds to the rows taken
abbrev last : Limits → List Row → Row → List Row
last m xs r = cond (went_in (add_answer m xs r)) (r ∷ []) []

pub taken_more : (m : Limits) (xs rs : List Row) (r : Row) → taken m xs (rs ++ (r ∷ [])) ≡ taken m xs rs ++ last m (joined xs (taken m xs rs)) r
unfolding taken joined
taken_more m xs [] r = refl
taken_more m xs (x ∷ rs) r =
    ⊎_elim
    (λ p. taken_in m x (rs ++ (r ∷ [])) xs p ∙ ap (λ ys. x ∷ ys) (taken_more m (insert x xs) rs r)
    ∙ ap (λ ys. ys ++ last m (joined xs ys) r) (sym (taken_in m x rs xs p)))
    (λ p. taken_out m x (rs ++ (r ∷ [])) xs p ∙ taken_more m xs rs r ∙ ap (λ ys. ys ++ last m (joined xs ys) r) (sym (taken_out m x rs xs p)))
    (cases_Bool (went_in (add_answer m xs x)))

pub taken_few : (m : Limits) (xs rs : List Row) → length (taken m xs rs) ≤ length rs
unfolding taken
taken_few m xs [] = omega arith
taken_few m xs (r ∷ rs) =
    ⊎_elim (λ p. let i = taken_few m (insert r xs) rs in rw (taken_in m r rs xs p) (omega arith))
    (λ p. let i = taken_few m xs rs in rw (taken_out m r rs xs p) (omega arith))
    (cases_Bool (went_in (add_answer m xs r)))

pub joined_more : (xs ys : List Row) (r : Row) → joined xs (ys ++ (r ∷ [])) ≡ insert r (joined xs ys)
unfolding joined
joined_more xs [] r = refl
joined_more xs (y ∷ ys) r = joined_more (insert y xs) ys r

pub grown_more : {S : Type 0} (grew : S → Row → S → Type 0) (s : S) (rs : List Row) (r : Row) (t u : S) → Grown grew s rs t → grew t r u → Grown grew s (rs ++ (r ∷ [])) u
grown_more grew s [] r t u e g = (u, (subst (λ v. grew v r u) e g, refl))
grown_more grew s (x ∷ rs) r t u h g = (h.0, (h.1.0, grown_more grew h.0 rs r t u h.1.1 g))

-- what each added row keeps, all keep
pub grown_keeps : {S X : Type 0} (grew : S → Row → S → Type 0) (f : S → X) → ((s : S) (r : Row) (t : S) → grew s r t → f t ≡ f s)
    → (s : S) (rs : List Row) (t : S) → Grown grew s rs t → f t ≡ f s
grown_keeps grew f k s [] t e = ap f e
grown_keeps grew f k s (r ∷ rs) t h = grown_keeps grew f k h.0 rs t h.1.1 ∙ k s r h.0 h.1.0

-- a growth of the whole, as a growth of a part
pub grown_under : {S Q : Type 0} (grew : S → Row → S → Type 0) (grown : Q → Row → Q → Type 0) (part : Q → S)
    → ((q : Q) (r : Row) (p : Q) → grown q r p → grew (part q) r (part p))
    → (q : Q) (rs : List Row) (p : Q) → Grown grown q rs p → Grown grew (part q) rs (part p)
grown_under grew grown part f q [] p e = ap part e
grown_under grew grown part f q (r ∷ rs) p h = (part h.0, (f q r h.0 h.1.0, grown_under grew grown part f h.0 rs p h.1.1))

module _ {S : Type 0} (M : Meaning S) where
  pub filled_none : (s : S) → Filled M (M.bounds s) s [] s
  unfolding taken joined
  filled_none s = record { held = refl; kept = refl; grown = refl }

  module _ (m : Limits) (s t u : S) (r : Row) (qs ys : List Row) (h : M.rows t ≡ joined (M.rows s) ys) (k : M.bounds t ≡ M.bounds s) (g : Grown M.grew s ys t) where
    idle : taken m (M.rows s) qs ≡ ys ++ [] → u ≡ t → Filled M m s qs u
    idle n e =
        let z = sym (n ∙ append-nil ys) in
        record {
          held = ap M.rows e ∙ h ∙ ap (joined (M.rows s)) z;
          kept = ap M.bounds e ∙ k;
          grown = subst (λ zs. Grown M.grew s zs u) z (subst (λ v. Grown M.grew s ys v) (sym e) g);
        }

    step : (a : Result Outcome TableFault) → taken m (M.rows s) qs ≡ ys ++ cond (went_in a) (r ∷ []) [] → M.rows u ≡ rows_after (M.rows t) r a → M.bounds u ≡ M.bounds t → Changed M.grew t r a u
        → Filled M m s qs u
    unfolding rows_after
    step (Ok Held) n a b c = idle n c
    step (Ok Added) n a b c =
        record {
          held = a ∙ ap (insert r) h ∙ sym (joined_more (M.rows s) ys r) ∙ ap (joined (M.rows s)) (sym n);
          kept = b ∙ k;
          grown = subst (λ zs. Grown M.grew s zs u) (sym n) (grown_more M.grew s ys r t u g c);
        }
    step (Err x) n a b c = idle n c

  -- one row more
  pub filled_more : (s : S) (rs : List Row) (t : S) (r : Row) (u : S) (a : Result Outcome TableFault) → Filled M (M.bounds s) s rs t
      → a ≡ add_answer (M.bounds t) (M.rows t) r → M.rows u ≡ rows_after (M.rows t) r a → M.bounds u ≡ M.bounds t → Changed M.grew t r a u
      → Filled M (M.bounds s) s (rs ++ (r ∷ [])) u
  filled_more s rs t r u a f e h k c =
      let m = M.bounds s in
      let ys = taken m (M.rows s) rs in
      let w : add_answer m (joined (M.rows s) ys) r ≡ a = sym (e ∙ (λ i. add_answer (f.kept i) (f.held i) r)) in
      step m s t u r (rs ++ (r ∷ [])) ys f.held f.kept f.grown a
      (taken_more m (M.rows s) rs r ∙ ap (λ b. ys ++ cond (went_in b) (r ∷ []) []) w) h k c

  -- how many more rows one more takes
  pub taken_counts : (s : S) (rs : List Row) (t : S) (r : Row) (a : Result Outcome TableFault) → Filled M (M.bounds s) s rs t
      → a ≡ add_answer (M.bounds t) (M.rows t) r
      → length (taken (M.bounds s) (M.rows s) (rs ++ (r ∷ []))) ≡ length (taken (M.bounds s) (M.rows s) rs) + cond (went_in a) 1 0
  taken_counts s rs t r a f e =
      let m = M.bounds s in
      let ys = taken m (M.rows s) rs in
      let w : add_answer m (joined (M.rows s) ys) r ≡ a = sym (e ∙ (λ i. add_answer (f.kept i) (f.held i) r)) in
      ap length (taken_more m (M.rows s) rs r ∙ ap (λ b. ys ++ cond (went_in b) (r ∷ []) []) w) ∙ length-append ys _
      ∙ elim (went_in a) as (λ b. length ys + length (cond b (r ∷ []) []) ≡ length ys + cond b 1 0) [ true ↦ refl | false ↦ refl ]

-- a table that is filled, as the one that it stands on
pub filled_under : {S Q : Type 0} (M : Meaning S) (limits : Q → Limits) (grown : Q → Row → Q → Type 0) (below : Q → S)
    → ((q : Q) (r : Row) (p : Q) → grown q r p → M.grew (below q) r (below p)) → ((s : S) (r : Row) (t : S) → M.grew s r t → M.bounds t ≡ M.bounds s)
    → (m : Limits) (q : Q) (rs : List Row) (p : Q) → Filled (standing below M limits grown) m q rs p → Filled M m (below q) rs (below p)
filled_under M limits grown below down steady m q rs p f =
    let g = grown_under M.grew grown below down q (taken m (M.rows (below q)) rs) p f.grown in
    record { held = f.held; kept = grown_keeps M.grew M.bounds steady (below q) (taken m (M.rows (below q)) rs) (below p) g; grown = g }

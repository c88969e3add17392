-- The promise over whole runs, from the contracts of the calls one after another.
use Rattle.std.proofs.Common.{◌≡◌, ℕ, zero, suc, ◌+◌, ◌<◌, ◌≤◌, Bool, true, false, cond, ltb, ◌⊎◌, ◌↔◌, List, [], ◌∷◌, ◌++◌, length, set, Ok, Err, Result, sym, refl, ap, ◌∙◌, subst, inl, inr, ⊎_elim, add-zero, add_assoc, zero-add, arith}
use Rattle.std.proofs.lemmas.Bool.{ltb-false}
use Rattle.rows.specs.declared.row.Row.{Row}
use Rattle.rows.specs.declared.answer.Limits.{Limits}
use Rattle.rows.specs.declared.answer.Outcome.{Outcome}
use Rattle.rows.specs.declared.answer.Outcome.TheVariants.{Held, Added}
use Rattle.rows.specs.declared.answer.TableFault.TheVariants.{NotAdmissible, Full}
use Rattle.rows.specs.Rows.{has, insert, admissible}
use Rattle.rows.specs.Tables.{Meaning, add_answer, full, Lawful}
use Rattle.rows.proofs.Sets.{insert_held}
use Rattle.datalog.specs.Contents.{Among}
use Rattle.datalog.proofs.Truths.{decide}
use Rattle.datalog.proofs.Closes.{insert_cases, insert_keeps, insert_here}
use Rattle.datalog.proofs.Engine.{complete_keeps, has_here, has_there, has_cons, has_none}
use Rattle.datalog.specs.declared.progress.Progress.{Progress}
use Rattle.datalog.specs.declared.progress.Progress.TheVariants.{Finished, Spent}
use Rattle.output.specs.Program.{program}
use Rattle.output.specs.Completion.{Completed, Missing, Adds}
use Rattle.output.proofs.Completing.{adds_append, adds_completed}
use Rattle.analysis.specs.declared.fault.RunFault.{RunFault}
use Rattle.analysis.specs.declared.fault.RunFault.TheVariants.{NotEmpty, NotFact, RowsMissing, Refused, Stopped}
use Rattle.analysis.specs.Calls.{passed, put_answer, Putting, Advancing, read_answer}
use Rattle.theorems.specs.Compared.{FactsAlone}
use Rattle.theorems.proofs.Compares.{loan_errors_compared, subset_errors_compared}
use Rattle.runs.specs.declared.script.Event.{Event}
use Rattle.runs.specs.declared.script.Event.TheVariants.{NotMade, Began, Put, Started, Advanced, Settled, Read}
use Rattle.runs.specs.Histories.{accept, accepted_onto, accepted, reported, additions, begun_by, begins, or_done, reached, of_advance}
use Rattle.runs.specs.Traces.{Deed, Order, Phase, at, Act, Turn, Trace}
use Rattle.theorems.specs.Numbers.{Distinct, Number}
use Rattle.runs.specs.Promise.{ReadRight, ReadsRight, Promised}

-- One event more, at the end of a history.
accepted_more : (facts : List Row) (es : List Event) (e : Event) → accepted_onto facts (es ++ e ∷ []) ≡ accept e (accepted_onto facts es)
accepted_more facts [] e = refl
accepted_more facts (x ∷ es) e = accepted_more (accept x facts) es e

additions_more : (es : List Event) (e : Event) → additions (es ++ e ∷ []) ≡ additions es + reported e
additions_more [] e = add-zero (reported e) ∙ sym (zero-add (reported e))
additions_more (x ∷ es) e = ap (λ n. reported x + n) (additions_more es e) ∙ sym (add_assoc (reported x) (additions es) (reported e))

begins_more : (es : List Event) (e : Event) → begins (es ++ e ∷ []) ≡ begins es + begun_by e
begins_more [] e = add-zero (begun_by e) ∙ sym (zero-add (begun_by e))
begins_more (x ∷ es) e = ap (λ n. begun_by x + n) (begins_more es e) ∙ sym (add_assoc (begun_by x) (begins es) (begun_by e))

-- Done was reached by the last event, or before it.
done_either : (x : Event) (A B : Type 0) → (A → B) → or_done x A → or_done x B
done_either (Settled (Ok u)) A B f d = tt
done_either _ A B f d = f d

reached_more : (es : List Event) (e : Event) → reached (es ++ e ∷ []) → or_done e (reached es)
reached_more [] e d = d
reached_more (x ∷ es) e d = swap x e (reached es) (done_either x (reached (es ++ e ∷ [])) (or_done e (reached es)) (reached_more es e) d)
  where
    swap : (x e : Event) (D : Type 0) → or_done x (or_done e D) → or_done e (or_done x D)
    swap x (Settled (Ok u)) D d = tt
    swap x _ D d = d

reads_more : (table : List Row) (es : List Event) (e : Event) → ReadsRight table es → ReadRight table e → ReadsRight table (es ++ e ∷ [])
reads_more table [] e rs r = (r, tt)
reads_more table (x ∷ es) e rs r = (rs.0, reads_more table es e rs.1 r)

-- What an accepted put says of its row.
module _ (m : Limits) (c : List Row) (n : ℕ) (r : Row) where
  abbrev Tells : Outcome → Bool → Type 0
  Tells Held b = b ≡ true
  Tells Added b = b ≡ false

  tells : (o : Outcome) (g a b f : Bool)
      → ◌≡◌ {A = Result Outcome RunFault} (Ok o) (cond g (Err NotFact) (passed n (cond a (cond b (Ok Held) (cond f (Err Full) (Ok Added))) (Err NotAdmissible)))) → (g ≡ false) × Tells o b
  tells o true a b f e = cc
  tells o false false b f e = cc
  tells Held false true true f e = (refl, refl)
  tells Added false true true f e = cc
  tells o false true false true e = cc
  tells Held false true false false e = cc
  tells Added false true false false e = (refl, refl)

  put_tells : (o : Outcome) → Ok o ≡ put_answer m c n r → (r.relation < 18) × Tells o (has c r)
  unfolding add_answer
  put_tells o e =
      let v = tells o (ltb 17 r.relation) (admissible m.width r) (has c r) (full m c r) e in
      let l = ltb-false 17 r.relation v.0 in
      (omega arith, v.1)

-- The number of rows that missing rows added come to.
module _ {S : Type 0} (rows : S → List Row) (grew : S → Row → S → Type 0) where
  -- the rows added, none of them twice: each was missing, and is held now
  pub record Gone (n : ℕ) (s t : S) : Type 0 where
    pub list : List Row
    pub apart : Distinct list
    pub was : (r : Row) → Among list r → Missing (rows s) r × Among (rows t) r
    pub either : (r : Row) → Among (rows t) r → Among (rows s) r ⊎ Among list r
    pub many : length list ≡ n

  gone : {n : ℕ} {s t : S} → Adds rows grew n s t → Gone n s t
  gone Adds.none = record { list = []; apart = tt; was = λ r m. absurd (has_none r m); either = λ r h. inl h; many = refl }
  gone (Adds.more {s = s} {t = t} {u = u} r a miss below is grown) =
      let w = gone a in
      let same = adds_completed rows grew a in
      let up : (x : Row) → Among (rows t) x → Among (rows u) x = λ x h. subst (λ c. Among c x) (sym is) (insert_keeps r x (rows t) h) in
      let kept : (x : Row) → Among (rows s) x → Among (rows t) x = adds_keep a in
      record {
        list = r ∷ w.list;
        apart = (λ m. miss.1 (w.was r m).1, w.apart);
        was = λ x m. has_cons r w.list x m
            (λ e. subst (λ (z : Row). Missing (rows s) z × Among (rows u) z) e ((same.0 r miss.0, λ h. miss.1 (kept r h)), subst (λ c. Among c r) (sym is) (insert_here r (rows t))))
            (λ i. let v = w.was x i in (v.0, up x v.1));
        either = λ x h. ⊎_elim
            (λ e. inr (subst (λ (z : Row). Among (r ∷ w.list) z) e (has_here r w.list)))
            (λ k. ⊎_elim inl (λ i. inr (has_there r w.list x i)) (w.either x k))
            (insert_cases r x (rows t) (subst (λ c. Among c x) is h));
        many = ap suc w.many;
      }
    where
      adds_keep : {n : ℕ} {s t : S} → Adds rows grew n s t → (x : Row) → Among (rows s) x → Among (rows t) x
      adds_keep Adds.none x h = h
      adds_keep (Adds.more {t = t} r a miss below is grown) x h = subst (λ c. Among c x) (sym is) (insert_keeps r x (rows t) (adds_keep a x h))

  -- where nothing is missing in the end, what was added is what was missing
  pub adds_number : {n : ℕ} {s t : S} → Adds rows grew n s t → ((r : Row) → ¬ Missing (rows t) r) → Number (Missing (rows s)) n
  adds_number {s = s} {t = t} a none-missing =
      let w = gone a in
      let same = adds_completed rows grew a in
      record {
        rows = w.list;
        distinct = w.apart;
        lists = λ r. (
          (λ m. ⊎_elim
              (λ h. ⊎_elim (λ k. absurd (m.1 k)) (λ k. k) (w.either r h))
              (λ n. absurd (none-missing r (same.1 r m.0, n)))
              (decide (has (rows t) r))),
          λ m. (w.was r m).0,
        );
        many = w.many;
      }

  pub full_table : {n : ℕ} {s t : S} → Adds rows grew n s t → ((r : Row) → ¬ Missing (rows t) r) → (r : Row) → (Among (rows t) r ↔ Completed (rows s) r)
  full_table {t = t} a full r =
      let same = adds_completed rows grew a in (
        (λ h. same.0 r (complete_keeps program (Among (rows t)) r h)),
        (λ h. ⊎_elim (λ j. j) (λ j. absurd (full r (same.1 r h, j))) (decide (has (rows t) r))),
      )

-- What the loop over a script keeps.
module _ {S : Type 0} (M : Meaning S) (lawful : (s : S) → Lawful (M.bounds s) (M.rows s)) where
  -- no read was made, so that all of them are right in any table
  abbrev ReadsAny : List Event → Type 0
  ReadsAny es = (table : List Row) → ReadsRight table es

  -- the table has the facts accepted, and nothing more
  abbrev Facts : List Event → S → Type 0
  Facts es t = (M.rows t ≡ accepted es) × (additions es ≡ 0) × (¬ reached es) × ReadsAny es

  -- from a table that had the facts accepted, as many missing rows were added as were reported
  abbrev Ran : List Event → S → Type 0
  Ran es t = (s : S) × (M.rows s ≡ accepted es) × Adds M.rows M.grew (additions es) s t

  abbrev One : List Event → Phase → S → Type 0
  One es (Phase.filling n) t = Facts es t
  One es Phase.running t = Ran es t × (¬ reached es) × ReadsAny es
  One es Phase.done t = Ran es t × ((r : Row) → ¬ Missing (M.rows t) r) × ReadsRight (M.rows t) es
  One es Phase.none t = ⊥

  abbrev Few : List Event → List Phase → S → Type 0
  Few es [] t = (begins es ≡ 0) × Facts es t
  Few es (p ∷ []) t = (begins es ≡ 1) × One es p t
  Few es (p ∷ q ∷ ps) t = ⊥

  abbrev pub Kept : List Event → List Phase → S → Type 0
  Kept es ps t = (2 ≤ begins es) ⊎ (FactsAlone (accepted es) × Few es ps t)

  -- two begins stay two
  many : (es : List Event) (e : Event) (ps : List Phase) (t : S) → 2 ≤ begins es → Kept (es ++ e ∷ []) ps t
  many es e ps t h = inl (let b = begins_more es e in omega arith)

  -- an event that adds nothing and accepts no fact
  ran_more : (es : List Event) (e : Event) (t : S) → Ran es t → accept e (accepted es) ≡ accepted es → reported e ≡ 0 → Ran (es ++ e ∷ []) t
  ran_more es e t r same nothing =
      let z : additions (es ++ e ∷ []) ≡ additions es = (let a = additions_more es e in omega arith) in
      (r.0, r.1 ∙ sym (accepted_more [] es e ∙ same), subst (λ n. Adds M.rows M.grew n r.0 t) (sym z) r.2)

  -- an event that tells nothing new
  module _ (es : List Event) (e : Event) (same : (facts : List Row) → accept e facts ≡ facts) (nothing : reported e ≡ 0) (none-begun : begun_by e ≡ 0)
      (not_done : or_done e (reached es) → reached es) (reads : (table : List Row) → ReadRight table e) where
    same_accepted : accepted (es ++ e ∷ []) ≡ accepted es
    same_accepted = accepted_more [] es e ∙ same (accepted es)

    same_additions : additions (es ++ e ∷ []) ≡ additions es
    same_additions = let a = additions_more es e in omega arith

    same_begins : begins (es ++ e ∷ []) ≡ begins es
    same_begins = let b = begins_more es e in omega arith

    same_facts : (t : S) → Facts es t → Facts (es ++ e ∷ []) t
    same_facts t f = (f.0 ∙ sym same_accepted, same_additions ∙ f.1, λ d. f.2 (not_done (reached_more es e d)), λ table. reads_more table es e (f.3 table) (reads table))

    same_one : (p : Phase) (t : S) → One es p t → One (es ++ e ∷ []) p t
    same_one (Phase.filling n) t o = same_facts t o
    same_one Phase.running t o = (ran_more es e t o.0 (same (accepted es)) nothing, λ d. o.1 (not_done (reached_more es e d)), λ table. reads_more table es e (o.2 table) (reads table))
    same_one Phase.done t o = (ran_more es e t o.0 (same (accepted es)) nothing, o.1, reads_more (M.rows t) es e o.2 (reads (M.rows t)))
    same_one Phase.none t o = o

    same_alone : FactsAlone (accepted es) → FactsAlone (accepted (es ++ e ∷ []))
    same_alone = subst FactsAlone (sym same_accepted)

    same_few : (ps : List Phase) (t : S) → Few es ps t → Few (es ++ e ∷ []) ps t
    same_few [] t f = (same_begins ∙ f.0, same_facts t f.1)
    same_few (p ∷ []) t f = (same_begins ∙ f.0, same_one p t f.1)
    same_few (p ∷ q ∷ ps) t f = f

    quiet : (ps : List Phase) (t : S) → Kept es ps t → Kept (es ++ e ∷ []) ps t
    quiet ps t k = ⊎_elim (many es e ps t) (λ v. inr (same_alone v.0, same_few ps t v.1)) k

  -- an event of the one run, by what it makes of it
  one_more : (es : List Event) (e : Event) (p : Phase) (u : S) → begins es ≡ 1 → begun_by e ≡ 0 → FactsAlone (accept e (accepted es)) → One (es ++ e ∷ []) p u → Kept (es ++ e ∷ []) (p ∷ []) u
  one_more es e p u b none-begun alone o = inr (subst FactsAlone (sym (accepted_more [] es e)) alone, ((let m = begins_more es e in omega arith), o))

  -- a begin that is accepted
  begin_kept : (es : List Event) (u : Unit {0}) (ps : List Phase) (t : S) → Kept es ps t → Kept (es ++ Began (Ok u) ∷ []) (ps ++ Phase.filling 0 ∷ []) t
  begin_kept es u ps t (inl h) = many es (Began (Ok u)) (ps ++ Phase.filling 0 ∷ []) t h
  begin_kept es u [] t (inr (alone, (b, f))) =
      let m = begins_more es (Began (Ok u)) in
      inr (
        subst FactsAlone (sym (accepted_more [] es (Began (Ok u)))) alone,
        (
          omega arith,
          (
            f.0 ∙ sym (accepted_more [] es (Began (Ok u))),
            (let a = additions_more es (Began (Ok u)) in let z = f.1 in omega arith),
            (λ d. f.2 (reached_more es (Began (Ok u)) d)),
            λ table. reads_more table es (Began (Ok u)) (f.3 table) tt,
          ),
        ),
      )
  begin_kept es u (p ∷ []) t (inr (alone, (b, o))) = inl (let m = begins_more es (Began (Ok u)) in omega arith)
  begin_kept es u (p ∷ q ∷ ps) t (inr (alone, f)) = absurd f

  -- a put, by its answer
  alone_more : (facts : List Row) (r : Row) → FactsAlone facts → r.relation < 18 → FactsAlone (insert r facts)
  alone_more facts r alone l s h = ⊎_elim (λ e. subst (λ (z : Row). z.relation < 18) e l) (λ k. alone s k) (insert_cases r s facts h)

  put_ok : (es : List Event) (r : Row) (o : Outcome) (n m : ℕ) (t u : S) → begins es ≡ 1 → FactsAlone (accepted es) → Facts es t → r.relation < 18
      → M.rows u ≡ insert r (accepted es) → Kept (es ++ Put r (Ok o) ∷ []) (Phase.filling m ∷ []) u
  put_ok es r o n m t u b alone f l is =
      let e : Event = Put r (Ok o) in
      one_more es e (Phase.filling m) u b refl (alone_more (accepted es) r alone l) (
        is ∙ sym (accepted_more [] es e),
        (let a = additions_more es e in let z = f.1 in omega arith),
        (λ d. f.2 (reached_more es e d)),
        λ table. reads_more table es e (f.3 table) tt,
      )

  put_kept : (es : List Event) (r : Row) (a : Result Outcome RunFault) (n m : ℕ) (t u : S) → begins es ≡ 1 → FactsAlone (accepted es) → Facts es t
      → Putting M t n r a u m → Kept (es ++ Put r a ∷ []) (Phase.filling m ∷ []) u
  put_kept es r (Ok Held) n m t u b alone f p =
      let k = put_tells (M.bounds t) (M.rows t) n r Held p.answer in
      put_ok es r Held n m t u b alone f k.0 (p.after ∙ sym (insert_held r (M.rows t) (lawful t).ascending k.1) ∙ ap (insert r) f.0)
  put_kept es r (Ok Added) n m t u b alone f p =
      let k = put_tells (M.bounds t) (M.rows t) n r Added p.answer in
      put_ok es r Added n m t u b alone f k.0 (p.after ∙ ap (insert r) f.0)
  put_kept es r (Err x) n m t u b alone f p =
      let e : Event = Put r (Err x) in
      let g : Facts es u = (p.after ∙ f.0, f.1, f.2, f.3) in
      quiet es e (λ facts. refl) refl refl (λ d. d) (λ table. tt) (Phase.filling m ∷ []) u (inr (alone, (b, g)))

  -- an advance, by its answer
  advance_adds : (budget : ℕ) (t u : S) (a : Result Progress RunFault) → Advancing M budget t a u → Adds M.rows M.grew (of_advance a) t u
  advance_adds budget t u (Ok (Finished n)) h = h.1
  advance_adds budget t u (Ok (Spent n)) h = h.1
  advance_adds budget t u (Err NotEmpty) h = absurd h
  advance_adds budget t u (Err NotFact) h = absurd h
  advance_adds budget t u (Err RowsMissing) h = absurd h
  advance_adds budget t u (Err (Refused x)) h = absurd h
  advance_adds budget t u (Err (Stopped x)) h = h.1

  advance_kept : (es : List Event) (budget : ℕ) (a : Result Progress RunFault) (t u : S) → begins es ≡ 1 → FactsAlone (accepted es) → One es Phase.running t
      → Advancing M budget t a u → Kept (es ++ Advanced budget a ∷ []) (Phase.running ∷ []) u
  advance_kept es budget a t u b alone o h =
      let e : Event = Advanced budget a in
      let ran = o.0 in
      one_more es e Phase.running u b refl alone (
        (ran.0, ran.1 ∙ sym (accepted_more [] es e), subst (λ n. Adds M.rows M.grew n ran.0 u) (sym (additions_more es e)) (adds_append M.rows M.grew ran.2 (advance_adds budget t u a h))),
        (λ d. o.1 (reached_more es e d)),
        λ table. reads_more table es e (o.2 table) tt,
      )

  start_kept : (es : List Event) (n : ℕ) (t : S) → begins es ≡ 1 → FactsAlone (accepted es) → Facts es t → Kept (es ++ Started ∷ []) (Phase.running ∷ []) t
  start_kept es n t b alone f =
      quiet es Started (λ facts. refl) refl refl (λ d. d) (λ table. tt) (Phase.running ∷ []) t
      (inr (alone, (b, ((t, f.0, subst (λ k. Adds M.rows M.grew k t t) (sym f.1) Adds.none), f.2, f.3))))

  settle_kept : (es : List Event) (u : Unit {0}) (t : S) → begins es ≡ 1 → FactsAlone (accepted es) → One es Phase.running t → ((r : Row) → ¬ Missing (M.rows t) r)
      → Kept (es ++ Settled (Ok u) ∷ []) (Phase.done ∷ []) t
  settle_kept es u t b alone o full =
      let e : Event = Settled (Ok u) in
      one_more es e Phase.done t b refl alone (ran_more es e t o.0 refl refl, full, reads_more (M.rows t) es e (o.2 (M.rows t)) tt)

  read_kept : (es : List Event) (q : Row) (a : Rattle.std.specs.declared.option.Option.Option Row) (t : S) → begins es ≡ 1 → FactsAlone (accepted es) → One es Phase.done t → a ≡ read_answer (M.rows t) q
      → Kept (es ++ Read q a ∷ []) (Phase.done ∷ []) t
  read_kept es q a t b alone o is =
      let e : Event = Read q a in
      one_more es e Phase.done t b refl alone (ran_more es e t o.0 refl refl, o.1, reads_more (M.rows t) es e o.2 is)

  -- a call on the one run
  one_kept : (es : List Event) (p q : Phase) (d : Deed) (e : Event) (t u : S) → begins es ≡ 1 → FactsAlone (accepted es) → One es p t → Act M p t d e q u
      → Kept (es ++ e ∷ []) (q ∷ []) u
  one_kept es p q d e t u b alone o (Act.not_made x) = quiet es NotMade (λ facts. refl) refl refl (λ d. d) (λ table. tt) (p ∷ []) t (inr (alone, (b, o)))
  one_kept es p q d e t u b alone o (Act.puts n m r a put) = put_kept es r a n m t u b alone o put
  one_kept es p q d e t u b alone o (Act.starts n) = start_kept es n t b alone o
  one_kept es p q d e t u b alone o (Act.advances budget a h k) = advance_kept es budget a t u b alone o h
  one_kept es p q d e t u b alone o (Act.settles v full) = settle_kept es v t b alone o full
  one_kept es p q d e t u b alone o (Act.not_settled x) = quiet es (Settled (Err RowsMissing)) (λ facts. refl) refl refl (λ d. d) (λ table. tt) (Phase.running ∷ []) t (inr (alone, (b, o)))
  one_kept es p q d e t u b alone o (Act.reads r a is) = read_kept es r a t b alone o is

  -- a call on no run changes nothing
  none_kept : (es : List Event) (ps : List Phase) (q : Phase) (d : Deed) (e : Event) (t u : S) → Kept es ps t → Act M Phase.none t d e q u → Kept (es ++ e ∷ []) ps u
  none_kept es ps q d e t u k (Act.not_made x) = quiet es NotMade (λ facts. refl) refl refl (λ d. d) (λ table. tt) ps t k

  act_kept : (es : List Event) (ps : List Phase) (i : ℕ) (q : Phase) (d : Deed) (e : Event) (t u : S) → Kept es ps t → Act M (at ps i) t d e q u → Kept (es ++ e ∷ []) (set ps i q) u
  act_kept es ps i q d e t u (inl h) a = many es e (set ps i q) u h
  act_kept es [] i q d e t u (inr v) a = none_kept es [] q d e t u (inr v) a
  act_kept es (p ∷ []) zero q d e t u (inr (alone, (b, o))) a = one_kept es p q d e t u b alone o a
  act_kept es (p ∷ []) (suc i) q d e t u (inr v) a = none_kept es (p ∷ []) q d e t u (inr v) a
  act_kept es (p ∷ p' ∷ ps) i q d e t u (inr (alone, f)) a = absurd f

  turn_kept : (es : List Event) (ps qs : List Phase) (o : Order) (e : Event) (t u : S) → Kept es ps t → Turn M ps t o e qs u → Kept (es ++ e ∷ []) qs u
  turn_kept es ps qs o e t u k (Turn.began i v empty) = begin_kept es v ps t k
  turn_kept es ps qs o e t u k (Turn.not_begun i full) = quiet es (Began (Err NotEmpty)) (λ facts. refl) refl refl (λ d. d) (λ table. tt) ps t k
  turn_kept es ps qs o e t u k (Turn.acts i d q a) = act_kept es ps i q d e t u k a

  pub trace_kept : {os : List Order} {es : List Event} {ps : List Phase} {s t : S} → Trace M os es ps s t → M.rows s ≡ [] → Kept es ps t
  trace_kept Trace.opened empty = inr ((λ r h. absurd (has_none r h)), (refl, (empty, refl, (λ d. d), λ table. tt)))
  trace_kept (Trace.then {es = es} {ps = ps} {qs = qs} {t = t} {u = u} o e before turn) empty = turn_kept es ps qs o e t u (trace_kept before empty) turn

  promised_few : (es : List Event) (ps : List Phase) (t : S) → FactsAlone (accepted es) → Few es ps t → Promised es (M.rows t)
  promised_few es [] t alone (b, f) one d = absurd (omega arith)
  promised_few es (Phase.filling n ∷ []) t alone (b, f) one d = absurd (f.2 d)
  promised_few es (Phase.running ∷ []) t alone (b, o) one d = absurd (o.1 d)
  promised_few es (Phase.done ∷ []) t alone (b, (ran, full, reads)) one d =
      let facts = ran.1 in (
        (λ r. subst (λ (c : List Row). Among (M.rows t) r ↔ Completed c r) facts (full_table M.rows M.grew ran.2 full r)),
        subst (λ (c : List Row). Number (Missing c) (additions es)) facts (adds_number M.rows M.grew ran.2 full),
        reads,
        loan_errors_compared (accepted es) alone,
        subset_errors_compared (accepted es) alone,
      )
  promised_few es (Phase.none ∷ []) t alone (b, o) one d = absurd o
  promised_few es (p ∷ q ∷ ps) t alone f one d = absurd f

  pub promised : {os : List Order} {es : List Event} {ps : List Phase} {s t : S} → Trace M os es ps s t → M.rows s ≡ [] → Promised es (M.rows t)
  promised {es = es} {ps = ps} {t = t} tr empty one d =
      ⊎_elim (λ (h : 2 ≤ begins es). absurd (omega arith)) (λ v. promised_few es ps t v.0 v.1 one d) (trace_kept tr empty)

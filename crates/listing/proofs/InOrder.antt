-- The rows of a relation as reads answer them, one after another, and the relations in order.
use Rattle.std.proofs.Common.{◌≡◌, ℕ, ◌+◌, ◌<◌, ◌≤◌, true, false, List, [], ◌∷◌, ◌++◌, length, Some, None, append_assoc, append-nil, sym, refl, ap, ◌∙◌, subst, ⊎_elim, arith}
use Rattle.std.specs.List.{AllByRecursion}
use Rattle.std.proofs.ByRecursion.{All-weaker}
use Rattle.std.proofs.lemmas.Bool.{cases_Bool, cases_eq}
use Rattle.rows.specs.declared.row.Row.{Row}
use Rattle.rows.specs.Rows.{before, first_from, of_relation, rest, bump, start, admissible, Asc}
use Rattle.rows.specs.declared.answer.Limits.{Limits}
use Rattle.rows.specs.Tables.{Lawful}
use Rattle.rows.proofs.Order.{before_start, before_relation, not_before_relation}
use Rattle.rows.proofs.Sets.{all_has}
use Rattle.rows.proofs.Adds.{relation_below, code_below}
use Rattle.analysis.specs.Calls.{read_answer}
use Rattle.rows.proofs.Scan.{rest_skip, rest_stop, rest_some, rest_none, first_held, of_in, of_out, none_above}

all_of : (P : Row → Type 0) (k : ℕ) (xs : List Row) → AllByRecursion P xs → AllByRecursion P (of_relation k xs)
unfolding of_relation
all_of P k [] a = tt
all_of P k (x ∷ xs) a =
    ⊎_elim (λ e. subst (AllByRecursion P) (sym (of_in k x xs e)) (a.0, all_of P k xs a.1))
    (λ n. subst (AllByRecursion P) (sym (of_out k x xs n)) (all_of P k xs a.1)) (cases_eq x.relation k)

of_is : (k : ℕ) (xs : List Row) → AllByRecursion (λ (y : Row). y.relation ≡ k) (of_relation k xs)
unfolding of_relation
of_is k [] = tt
of_is k (x ∷ xs) =
    ⊎_elim (λ e. subst (AllByRecursion (λ (y : Row). y.relation ≡ k)) (sym (of_in k x xs e)) (e, of_is k xs))
    (λ n. subst (AllByRecursion (λ (y : Row). y.relation ≡ k)) (sym (of_out k x xs n)) (of_is k xs)) (cases_eq x.relation k)

asc_of : (k : ℕ) (xs : List Row) → Asc xs → Asc (of_relation k xs)
unfolding of_relation
asc_of k [] a = tt
asc_of k (x ∷ xs) a =
    ⊎_elim (λ e. subst Asc (sym (of_in k x xs e)) (all_of (λ y. before x y ≡ true) k xs a.0, asc_of k xs a.1))
    (λ n. subst Asc (sym (of_out k x xs n)) (asc_of k xs a.1)) (cases_eq x.relation k)

-- the first row that a relation could have, against rows of other relations

low_before : (k : ℕ) (x : Row) → x.relation < k → before x (start k) ≡ true
low_before k x l =
    ⊎_elim (λ e. e) (λ e. let no_way : ⊥ = (let m = not_before_relation x (start k) e in omega arith) in absurd no_way) (cases_Bool (before x (start k)))

high_not_before : (k : ℕ) (x : Row) → k ≤ x.relation → before x (start k) ≡ false
high_not_before k x l =
    ⊎_elim (λ e. let no_way : ⊥ = (let m = before_start k x e in omega arith) in absurd no_way) (λ e. e) (cases_Bool (before x (start k)))

rest_all : (k : ℕ) (xs : List Row) → AllByRecursion (λ (y : Row). k ≤ y.relation) xs → rest (start k) xs ≡ xs
unfolding rest
rest_all k [] a = refl
rest_all k (x ∷ xs) a = rest_stop (start k) x xs (high_not_before k x a.0)

rest_none_of : (k : ℕ) (xs : List Row) → AllByRecursion (λ (y : Row). y.relation < k) xs → rest (start k) xs ≡ []
unfolding rest
rest_none_of k [] a = refl
rest_none_of k (x ∷ xs) a = rest_skip (start k) x xs (low_before k x a.0) ∙ rest_none_of k xs a.1

-- a relation is read from its first row on
read_all : (k : ℕ) (xs : List Row) → rest (start k) (of_relation k xs) ≡ of_relation k xs
read_all k xs = rest_all k (of_relation k xs) (All-weaker _ _ (λ y e. omega arith) (of_relation k xs) (of_is k xs))

-- The rows of relation k that come before `from` are found, after the first ones.
pub record Reading (k : ℕ) (xs first found : List Row) (from : Row) : Type 0 where
  pub of : from.relation ≡ k
  pub stands : found ++ rest from (of_relation k xs) ≡ first ++ of_relation k xs

-- A read from q answers r.
module _ (k : ℕ) (q r : Row) (xs : List Row) (asc : Asc xs) (of : q.relation ≡ k) (e : read_answer xs q ≡ Some r) where
  found_in : first_from (of_relation k xs) q ≡ Some r
  unfolding read_answer
  found_in = ap (λ j. first_from (of_relation j xs) q) (sym of) ∙ e

  -- what is read satisfies what all rows satisfy
  read_has : (P : Row → Type 0) → AllByRecursion P xs → P r
  read_has P a = all_has P (of_relation k xs) r (all_of P k xs a) (first_held q r (of_relation k xs) found_in)

  read_relation : r.relation ≡ k
  read_relation =
      all_has (λ (y : Row). y.relation ≡ k) (of_relation k xs) r (of_is k xs) (first_held q r (of_relation k xs) found_in)

  read_step : rest q (of_relation k xs) ≡ r ∷ rest (bump r) (of_relation k xs)
  read_step = rest_some q r (of_relation k xs) (asc_of k xs asc) found_in

-- its codes are below the width
pub read_code : (m : Limits) (q r : Row) (xs : List Row) → Lawful m xs → read_answer xs q ≡ Some r → r.c < m.width
read_code m q r xs law e =
    code_below m.width r (read_has q.relation q r xs law.ascending refl e (λ x. admissible m.width x ≡ true) law.sound)

module _ (m : Limits) (k : ℕ) (xs first : List Row) where
  pub reads_first : (q : Row) → q ≡ start k → Reading k xs first first q
  reads_first q e =
      record {
        of = ap (λ (y : Row). y.relation) e;
        stands = ap (λ z. first ++ z) (ap (λ y. rest y (of_relation k xs)) e ∙ read_all k xs);
      }

  module _ (found : List Row) (q : Row) (h : Reading k xs first found q) where
    pub reads_next : (r q' : Row) (found' : List Row) → Lawful m xs → read_answer xs q ≡ Some r → found' ≡ found ++ r ∷ [] → q' ≡ bump r → Reading k xs first found' q'
    reads_next r q' found' law e f b =
        let step = read_step k q r xs law.ascending h.of e in
        record {
          of = ap (λ (y : Row). y.relation) b ∙ read_relation k q r xs law.ascending h.of e;
          stands = rw (f, b, append_assoc) (rw (← step) h.stands);
        }

    pub reads_fewer : (r : Row) → Lawful m xs → read_answer xs q ≡ Some r → length (rest (bump r) (of_relation k xs)) < length (rest q (of_relation k xs))
    reads_fewer r law e = omega (arith, ap length (read_step k q r xs law.ascending h.of e))

    pub reads_all : read_answer xs q ≡ None → found ≡ first ++ of_relation k xs
    unfolding read_answer
    reads_all e =
        let none = rest_none q (of_relation k xs) (ap (λ j. first_from (of_relation j xs) q) (sym h.of) ∙ e) in
        sym (append-nil found) ∙ ap (λ z. found ++ z) (sym none) ∙ h.stands

pub ruleset readings = (read_code, reads_first, reads_next, reads_fewer, reads_all)

-- the rows of a relation come before those of the later ones
relation_first : (k : ℕ) (xs : List Row) → Asc xs → rest (start k) xs ≡ of_relation k xs ++ rest (start (k + 1)) xs
unfolding rest of_relation
relation_first k [] a = refl
relation_first k (x ∷ xs) a =
    ⊎_elim
    (λ p.
    let l = before_start k x p in
    let n : x.relation ≡ k → ⊥ = λ e. omega arith in
    rest_skip (start k) x xs p ∙ relation_first k xs a.1 ∙ ap (λ ys. ys ++ rest (start (k + 1)) xs) (sym (of_out k x xs n))
    ∙ ap (λ ys. of_relation k (x ∷ xs) ++ ys) (sym (rest_skip (start (k + 1)) x xs (low_before (k + 1) x (omega arith)))))
    (λ p.
    let low : k ≤ x.relation = not_before_relation x (start k) p in
    let later : AllByRecursion (λ (y : Row). x.relation ≤ y.relation) xs = All-weaker _ _ (λ y b. before_relation x y b) xs a.0 in
    ⊎_elim
    (λ e.
    rest_stop (start k) x xs p
    ∙ ap (λ ys. x ∷ ys) (sym (rest_all k xs (All-weaker _ _ (λ y m. omega arith) xs later)) ∙ relation_first k xs a.1)
    ∙ ap (λ ys. ys ++ rest (start (k + 1)) xs) (sym (of_in k x xs e))
    ∙ ap (λ ys. of_relation k (x ∷ xs) ++ ys) (sym (rest_skip (start (k + 1)) x xs (low_before (k + 1) x (omega arith)))))
    (λ n.
    let above : k < x.relation = omega (arith, n) in
    rest_stop (start k) x xs p
    ∙ sym (rest_stop (start (k + 1)) x xs (high_not_before (k + 1) x (omega arith)))
    ∙ ap (λ ys. ys ++ rest (start (k + 1)) (x ∷ xs)) (sym (none_above k (x ∷ xs) (above, All-weaker _ _ (λ y m. omega arith) xs later))))
    (cases_eq x.relation k))
    (cases_Bool (before x (start k)))

-- no row is past the forty relations
none_past : (w k : ℕ) (xs : List Row) → 40 ≤ k → AllByRecursion (λ x. admissible w x ≡ true) xs → rest (start k) xs ≡ []
none_past w k xs h a = rest_none_of k xs (All-weaker _ _ (λ y b. let l = relation_below w y b in omega arith) xs a)

-- the derived rows, relation by relation, where those of the relations before k are found
module _ (m : Limits) (xs found : List Row) (k : ℕ) (law : Lawful m xs) (h : found ++ rest (start k) xs ≡ rest (start 18) xs) where
  pub relation_read : (found' : List Row) → found' ≡ found ++ of_relation k xs → found' ++ rest (start (k + 1)) xs ≡ rest (start 18) xs
  relation_read found' e = rw (e, append_assoc, ← relation_first k xs law.ascending) h

  pub all_read : 40 ≤ k → found ≡ rest (start 18) xs
  all_read l = sym (append-nil found) ∙ ap (λ z. found ++ z) (sym (none_past m.width k xs l law.sound)) ∙ h

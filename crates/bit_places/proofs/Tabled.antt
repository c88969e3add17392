-- What a bit table's functions answer.
use Rattle.std.proofs.Common.{◌≡◌, ℕ, suc, ◌+◌, ◌-◌, ◌*◌, ◌<◌, ◌≤◌, Bool, true, false, cond, ltb, leb, List, [], length, Some, None, Ok, Err, sym, refl, ap, ◌∙◌, ⊎_elim, zero-add, arith}
use Rattle.std.proofs.lemmas.List.FromFn.{get_or-map-range_with_len}
use Rattle.std.proofs.lemmas.Bool.{cases_Bool, cases_lt, or_from, lt-ltb, lt-leb}
use Rattle.rows.specs.declared.row.Row.{Row}
use Rattle.rows.specs.Rows.{admissible, has, insert, first_from}
use Rattle.rows.specs.Tables.{full, add_answer}
use Rattle.rows.proofs.Adds as adds
use Rattle.rows.proofs.Adds.{full_total}
use Rattle.rows.specs.declared.answer.Outcome.TheVariants.{Held, Added}
use Rattle.rows.specs.declared.answer.TableFault.TheVariants.{NotAdmissible, Full}
use Rattle.bit_places.specs.Places.{size, base, place, row_of}
use Rattle.bit_places.specs.Bit.{bit, raised}
use Rattle.bit_places.specs.Marked.{marked}
use Rattle.bit_places.specs.Opened.{bit_limits, each_limit}
use Rattle.bit_places.proofs.Placed.{Fit, fit, place_below, fit_row, place_row}
use Rattle.rows.proofs.Sets.{length_insert}
use Rattle.bit_places.proofs.Marks.{asc_marked, sound_marked, has_unfit, has_marked, insert_marked, first_jump, first_set}
use Rattle.bit_places.proofs.Crowds.{room_all, room_relation}

-- none past the last place
pub marked_end : (w : ℕ) (ws : List ℕ) (i n : ℕ) → n ≤ i → marked w ws i (n - i) ≡ []
unfolding marked
marked_end w ws i n h = let e : n - i ≡ 0 = omega arith in rw e

first_none : (w : ℕ) (ws : List ℕ) (r : Row) (i n : ℕ) → n ≤ i → first_from (marked w ws i (n - i)) r ≡ None
unfolding first_from
first_none w ws r i n h = ap (λ xs. first_from xs r) (marked_end w ws i n h)

-- a search begins at the row's place
pub first_start : (w : ℕ) (ws : List ℕ) (r : Row) (n : ℕ) → n ≤ base w 40
    → first_from (marked w ws 0 n) r ≡ first_from (marked w ws (place w r) (n - place w r)) r
first_start w ws r n h =
    ⊎_elim
    (λ l. let p = place w r in
    let e : n ≡ (n - p) + p = omega arith in
    ap (λ k. first_from (marked w ws 0 k) r) e ∙ first_jump w ws r p 0 (n - p) (omega arith) (omega arith) ∙ ap (λ k. first_from (marked w ws k (n - p)) r) (zero-add p))
    (λ l. let e : n ≡ 0 + n = omega arith in
    ap (λ k. first_from (marked w ws 0 k) r) e ∙ first_jump w ws r n 0 0 (omega arith) (omega arith) ∙ ap (λ k. first_from (marked w ws k 0) r) (zero-add n)
    ∙ (let z : 0 ≡ n - n = omega arith in ap (λ k. first_from (marked w ws n k) r) z) ∙ first_none w ws r n n (omega arith) ∙ sym (first_none w ws r (place w r) n (omega arith)))
    (cases_lt (place w r) (n + 1))

module _ (w : ℕ) (ws : List ℕ) (i n : ℕ) (l : i < n) where
  step : n - i ≡ suc (n - (i + 1))
  step = omega arith

  pub first_found : (r : Row) → n ≤ base w 40 → place w r ≤ i → bit ws i ≡ true → first_from (marked w ws i (n - i)) r ≡ Some (row_of w i)
  first_found r h p b = ap (λ k. first_from (marked w ws i k) r) step ∙ first_set w ws r i (n - (i + 1)) (omega arith) p b

pub nothing_held : (w : ℕ) (ws : List ℕ) (r : Row) → has (marked w ws 0 0) r ≡ false
unfolding has marked
nothing_held w ws r = refl

pub closed_full : (w : ℕ) (ws : List ℕ) (r : Row) → full (bit_limits false w) (marked w ws 0 0) r ≡ true
unfolding bit_limits marked
closed_full w ws r = full_total (bit_limits false w) (marked w ws 0 0) r (omega arith)

module _ (w : ℕ) (ws : List ℕ) (r : Row) (a : admissible w r ≡ true) where
  f : Fit w r
  f = fit w r a

  pub has_bit : has (marked w ws 0 (base w 40)) r ≡ bit ws (place w r)
  has_bit = let l = place_below w r f in has_marked w ws r f 0 (base w 40) (omega arith) (omega arith) (omega arith)

  pub insert_bit : base w 40 ≤ 64 * length ws → bit ws (place w r) ≡ false → marked w (raised ws (place w r)) 0 (base w 40) ≡ insert r (marked w ws 0 (base w 40))
  insert_bit h z = let l = place_below w r f in insert_marked w ws r f (omega arith) z 0 (base w 40) (omega arith) (omega arith) (omega arith)

  pub never_full : has (marked w ws 0 (base w 40)) r ≡ false → full (bit_limits true w) (marked w ws 0 (base w 40)) r ≡ false
  unfolding full bit_limits each_limit
  never_full z =
      let xs = marked w ws 0 (base w 40) in
      let asc = asc_marked w ws 0 (base w 40) (omega arith) in
      let ok = sound_marked w ws 0 (base w 40) (omega arith) in
      let e = get_or-map-range_with_len (λ k. size w k) 0 40 r.relation r.relation 0 f.relation (omega arith) in
      let m = room_relation w xs r asc ok a z in
      or_from (leb (base w 40) (length xs)) _ (lt-leb (base w 40) (length xs) (room_all w xs r asc ok a z)) (lt-leb _ _ (rw e m))

-- the same, as a table has them: open or not, with its number of places
module _ (w : ℕ) (ws : List ℕ) (n : ℕ) (live : Bool) (r : Row) (e : n ≡ cond live (base w 40) 0) where
  open_places : live ≡ true → n ≡ base w 40
  open_places t = e ∙ ap (λ b. cond b (base w 40) 0) t

  shut_places : live ≡ false → n ≡ 0
  shut_places t = e ∙ ap (λ b. cond b (base w 40) 0) t

  pub answer_unfit : admissible w r ≡ false → Err NotAdmissible ≡ add_answer (bit_limits live w) (marked w ws 0 n) r
  unfolding bit_limits
  answer_unfit a = adds.refused (bit_limits live w) (marked w ws 0 n) r a

  pub answer_shut : live ≡ false → admissible w r ≡ true → Err Full ≡ add_answer (bit_limits live w) (marked w ws 0 n) r
  unfolding bit_limits
  answer_shut t a =
      adds.filled (bit_limits false w) (marked w ws 0 0) r a (nothing_held w ws r) (closed_full w ws r)
      ∙ (λ i. add_answer (bit_limits (sym t i) w) (marked w ws 0 (sym (shut_places t) i)) r)

  pub answer_held : live ≡ true → admissible w r ≡ true → bit ws (place w r) ≡ true → Ok Held ≡ add_answer (bit_limits live w) (marked w ws 0 n) r
  unfolding bit_limits
  answer_held t a b =
      adds.held (bit_limits true w) (marked w ws 0 (base w 40)) r a (has_bit w ws r a ∙ b)
      ∙ (λ i. add_answer (bit_limits (sym t i) w) (marked w ws 0 (sym (open_places t) i)) r)

  pub answer_added : live ≡ true → admissible w r ≡ true → bit ws (place w r) ≡ false → Ok Added ≡ add_answer (bit_limits live w) (marked w ws 0 n) r
  unfolding bit_limits
  answer_added t a b =
      let z = has_bit w ws r a ∙ b in
      adds.added (bit_limits true w) (marked w ws 0 (base w 40)) r a z (never_full w ws r a z)
      ∙ (λ i. add_answer (bit_limits (sym t i) w) (marked w ws 0 (sym (open_places t) i)) r)

  pub after_added : live ≡ true → n ≤ 64 * length ws → admissible w r ≡ true → bit ws (place w r) ≡ false
      → marked w (raised ws (place w r)) 0 n ≡ insert r (marked w ws 0 n)
  after_added t h a b =
      let p = open_places t in
      ap (λ k. marked w (raised ws (place w r)) 0 k) p ∙ insert_bit w ws r a (omega arith) b ∙ ap (λ k. insert r (marked w ws 0 k)) (sym p)

  pub has_shut : live ≡ false → has (marked w ws 0 n) r ≡ false
  has_shut t = ap (λ k. has (marked w ws 0 k) r) (shut_places t) ∙ nothing_held w ws r

  pub has_not_fit : n ≤ base w 40 → admissible w r ≡ false → has (marked w ws 0 n) r ≡ false
  has_not_fit h a = has_unfit w ws r 0 n (omega arith) a

  pub has_open : live ≡ true → admissible w r ≡ true → has (marked w ws 0 n) r ≡ bit ws (place w r)
  has_open t a = ap (λ k. has (marked w ws 0 k) r) (open_places t) ∙ has_bit w ws r a

-- a table with a place for a row is open, and one with none for an admissible row is not
pub live_open : (p n : ℕ) → p < n → ltb 0 n ≡ true
live_open p n l = lt-ltb 0 n (omega arith)

pub live_shut : (w n : ℕ) (r : Row) → n ≡ cond (ltb 0 n) (base w 40) 0 → admissible w r ≡ true → n ≤ place w r → ltb 0 n ≡ false
live_shut w n r e a l =
    ⊎_elim (λ t. absurd (omega (arith, place_below w r (fit w r a), e ∙ ap (λ b. cond b (base w 40) 0) t))) (λ p. p) (cases_Bool (ltb 0 n))

-- one row more for a bit raised
pub count_raised : (w : ℕ) (ws : List ℕ) (n i : ℕ) → n ≤ base w 40 → n ≤ 64 * length ws → i < n → bit ws i ≡ false
    → length (marked w (raised ws i) 0 n) ≡ length (marked w ws 0 n) + 1
count_raised w ws n i h m l z =
    let r = row_of w i in
    let f = fit_row w i (omega arith) in
    let p : place w r ≡ i = place_row w i (omega arith) in
    let b : bit ws (place w r) ≡ false = ap (bit ws) p ∙ z in
    ap (λ k. length (marked w (raised ws k) 0 n)) (sym p)
    ∙ ap length (insert_marked w ws r f (omega arith) b 0 n (omega arith) (omega arith) (omega arith))
    ∙ length_insert r (marked w ws 0 n) (has_marked w ws r f 0 n (omega arith) (omega arith) (omega arith) ∙ b)

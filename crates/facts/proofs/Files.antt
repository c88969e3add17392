-- A file read record by record: what has been read, and that it can be read in one way only.
use Rattle.std.proofs.Common.{◌≡◌, ℕ, zero, suc, ◌+◌, ◌*◌, ◌/◌, ◌%◌, ◌<◌, ◌≤◌, Bool, true, cond, ◌&&◌, eqb, ◌⊎◌, List, [], ◌∷◌, ◌++◌, length, get_or, take, drop, ◌==◌, Some, None, Ok, Err, Option, Result, sym, refl, ap, ◌∙◌, subst, ⊎_elim, append_assoc, append-nil, add_assoc, arith, length-append, take_all}
use Rattle.std.specs.List.{AllByRecursion}
use Rattle.std.proofs.ByRecursion.{All-push}
use Rattle.std.proofs.lemmas.Bool.Decides.{nat_tests, Decides-eqb, Decides-below_and}
use Rattle.std.proofs.Math.Seq.{take-append_seam, drop-append_seam}
use lib.Seq.{take-append-le}
use Rattle.rows.specs.Rows.{admissible, places}
use Rattle.rows.specs.declared.row.Row.{Row}
use Rattle.facts.specs.declared.record.Record.{Record}
use Rattle.facts.specs.declared.record.ReadFault.{ReadFault}
use Rattle.facts.specs.declared.record.ReadFault.TheVariants.{LoneByte, UnknownMark, Cut}
use Rattle.facts.specs.Format.{marks, mark, bytes_of, codes_of, written, Fact, file, records, Marked, Refused, fault_offset, Answered, Same}
use Rattle.facts.specs.declared.whole.WholeFault.TheVariants.{Unread}
use Rattle.facts.specs.Whole.{ReadWhole, CountedWhole, Stopped}

-- The records xs are those of facts, whose file stood before the offset; the rest is still to come.
pub record Before (bytes : List ℕ) (xs : List Record) (at : ℕ) (rest : List ℕ) : Type 0 where
  pub rows : List Row
  pub facts : AllByRecursion Fact rows
  pub are : xs ≡ records 0 rows
  pub first : bytes ≡ file rows ++ rest
  pub long : at ≡ length (file rows)

-- one row more

pub file_push : (rs : List Row) (r : Row) → file (rs ++ r ∷ []) ≡ file rs ++ written r
file_push [] r = append-nil (written r)
file_push (x ∷ rs) r = ap (λ t. written x ++ t) (file_push rs r) ∙ sym (append_assoc (written x) (file rs) (written r))

pub records_push : (n : ℕ) (rs : List Row) (r : Row) → records n (rs ++ r ∷ []) ≡ records n rs ++ record { offset = n + length (file rs); row = r } ∷ []
records_push n [] r = ap (λ m. record { offset = m; row = r } ∷ []) (omega arith)
records_push n (x ∷ rs) r =
    ap (λ t. record { offset = n; row = x } ∷ t)
    (records_push (n + length (written x)) rs r
    ∙ ap (λ m. records (n + length (written x)) rs ++ record { offset = m; row = r } ∷ [])
    (add_assoc n (length (written x)) (length (file rs)) ∙ ap (λ m. n + m) (sym (length-append (written x) (file rs)))))

-- marks have two letters, and no two relations have the same: tests of all eighteen, which antt computes

abbrev all_below : (ℕ → Bool) → ℕ → Bool
all_below test zero = true
all_below test (suc n) = test n && all_below test n

same_below : (f g : ℕ → ℕ) (n : ℕ) → all_below (λ k. f k == g k) n ≡ true → (k : ℕ) → k < n → f k ≡ g k
same_below f g n =
    (Decides-below_and (λ k. f k == g k) (λ k. f k ≡ g k) (all_below (λ k. f k == g k)) (λ k. Decides-eqb (f k) (g k)) refl (λ _. refl) n).0

abbrev letters : List ℕ → ℕ
letters m = 256 * get_or m 0 0 + get_or m 1 0

-- where the mark stands among some
abbrev place : ℕ → List (List ℕ) → ℕ
place n [] = 0
place n (m ∷ ms) = cond (eqb (letters m) n) 0 (suc (place n ms))

mark_placed : (k : ℕ) → k < 18 → place (letters (mark k)) marks ≡ k
mark_placed = same_below (λ k. place (letters (mark k)) marks) (λ k. k) 18 refl

pub mark_long : (k : ℕ) → k < 18 → length (mark k) ≡ 2
mark_long = same_below (λ k. length (mark k)) (λ _. 2) 18 refl

pub mark_same : (k j : ℕ) → k < 18 → j < 18 → mark k ≡ mark j → k ≡ j
mark_same k j h i e = sym (mark_placed k h) ∙ ap (λ m. place (letters m) marks) e ∙ mark_placed j i

-- the codes of a record: how long they are, and that they say the row

split_same : (xs ys us vs : List ℕ) → length xs ≡ length ys → xs ++ us ≡ ys ++ vs → (xs ≡ ys) × (us ≡ vs)
split_same xs ys us vs l e = (
  sym (take-append_seam xs us) ∙ ap (take (length xs)) e ∙ ap (λ n. take n (ys ++ vs)) l ∙ take-append_seam ys vs,
  sym (drop-append_seam xs us) ∙ ap (drop (length xs)) e ∙ ap (λ n. drop n (ys ++ vs)) l ∙ drop-append_seam ys vs,
)

bytes_long : (cs : List ℕ) → length (bytes_of cs) ≡ 2 * length cs
bytes_long [] = refl
bytes_long (c ∷ cs) = omega (arith, bytes_long cs)

bytes_same : (cs ds : List ℕ) → length cs ≡ length ds → bytes_of cs ≡ bytes_of ds → cs ≡ ds
bytes_same [] [] l e = refl
bytes_same [] (d ∷ ds) l e = absurd (omega arith)
bytes_same (c ∷ cs) [] l e = absurd (omega arith)
bytes_same (c ∷ cs) (d ∷ ds) l e =
    let low : c % 256 ≡ d % 256 = cc in
    let high : c / 256 ≡ d / 256 = cc in
    let more : bytes_of cs ≡ bytes_of ds = cc in
    let same : c ≡ d = omega arith in
    let rest = bytes_same cs ds (omega arith) more in
    cc

-- a relation has one place, two or three
by_places : (k : ℕ) → (places k ≡ 1) ⊎ ((places k ≡ 2) ⊎ (places k ≡ 3))
by_places k = grind (arith, nat_tests)

codes_long : (r : Row) → length (codes_of r) ≡ places r.relation
codes_long r =
    let is : (n : ℕ) → places r.relation ≡ n → length (take n (r.a ∷ r.b ∷ r.c ∷ [])) ≡ n → length (codes_of r) ≡ places r.relation =
    λ n p l. ap (λ m. length (take m (r.a ∷ r.b ∷ r.c ∷ []))) p ∙ l ∙ sym p in
    ⊎_elim (λ p. is 1 p refl) (⊎_elim (λ p. is 2 p refl) (λ p. is 3 p refl)) (by_places r.relation)

pub written_long : (r : Row) → Fact r → length (written r) ≡ 2 + 2 * places r.relation
written_long r f =
    omega (arith, mark_long r.relation f.0, length-append (mark r.relation) (bytes_of (codes_of r)), bytes_long (codes_of r), codes_long r)

-- unused places hold 0
module _ (r : Row) (f : admissible 65536 r ≡ true) where
  one_b : places r.relation ≡ 1 → r.b ≡ 0
  unfolding admissible
  one_b p = grind (arith, nat_tests)

  two_c : (places r.relation ≡ 3 → ⊥) → r.c ≡ 0
  unfolding admissible
  two_c p = grind (arith, nat_tests)

  -- a row can be read off its codes
  abbrev all : List ℕ
  all = r.a ∷ r.b ∷ r.c ∷ []

  at_places : (i n : ℕ) → places r.relation ≡ n → get_or (codes_of r) i 0 ≡ get_or (take n all) i 0
  at_places i n p = ap (λ m. get_or (take m all) i 0) p

  read_a : get_or (codes_of r) 0 0 ≡ r.a
  read_a = ⊎_elim (at_places 0 1) (⊎_elim (at_places 0 2) (at_places 0 3)) (by_places r.relation)

  read_b : get_or (codes_of r) 1 0 ≡ r.b
  read_b =
      ⊎_elim (λ p. at_places 1 1 p ∙ sym (one_b p)) (⊎_elim (at_places 1 2) (at_places 1 3)) (by_places r.relation)

  read_c : get_or (codes_of r) 2 0 ≡ r.c
  read_c =
      ⊎_elim (λ p. at_places 2 1 p ∙ sym (two_c (λ q. omega arith)))
      (⊎_elim (λ p. at_places 2 2 p ∙ sym (two_c (λ q. omega arith))) (at_places 2 3)) (by_places r.relation)

codes_same : (r s : Row) → admissible 65536 r ≡ true → admissible 65536 s ≡ true → r.relation ≡ s.relation → codes_of r ≡ codes_of s → r ≡ s
codes_same r s f g k e =
    let read : (i : ℕ) → get_or (codes_of r) i 0 ≡ get_or (codes_of s) i 0 = λ i. ap (λ cs. get_or cs i 0) e in
    let a : r.a ≡ s.a = sym (read_a r f) ∙ read 0 ∙ read_a s g in
    let b : r.b ≡ s.b = sym (read_b r f) ∙ read 1 ∙ read_b s g in
    let c : r.c ≡ s.c = sym (read_c r f) ∙ read 2 ∙ read_c s g in
    λ i. record { relation = k i; a = a i; b = b i; c = c i }

-- a record can be read in one way only

pub written_same : (r s : Row) (us vs : List ℕ) → Fact r → Fact s → written r ++ us ≡ written s ++ vs → (r ≡ s) × (us ≡ vs)
written_same r s us vs f g e =
    let two : length (mark r.relation) ≡ length (mark s.relation) =
    mark_long r.relation f.0 ∙ sym (mark_long s.relation g.0) in
    let marked =
    split_same (mark r.relation) (mark s.relation) (bytes_of (codes_of r) ++ us) (bytes_of (codes_of s) ++ vs) two
    (sym (append_assoc (mark r.relation) (bytes_of (codes_of r)) us) ∙ e ∙ append_assoc (mark s.relation) (bytes_of (codes_of s)) vs) in
    let k : r.relation ≡ s.relation = mark_same r.relation s.relation f.0 g.0 marked.0 in
    let l : length (codes_of r) ≡ length (codes_of s) = codes_long r ∙ ap places k ∙ sym (codes_long s) in
    let long : length (bytes_of (codes_of r)) ≡ length (bytes_of (codes_of s)) =
    omega (arith, bytes_long (codes_of r), bytes_long (codes_of s)) in
    let parts = split_same (bytes_of (codes_of r)) (bytes_of (codes_of s)) us vs long marked.1 in
    (codes_same r s f.1 g.1 k (bytes_same (codes_of r) (codes_of s) l parts.0), parts.1)

-- and where a record stands nothing is refused

marked_here : (r : Row) (us : List ℕ) → Fact r → take 2 (written r ++ us) ≡ mark r.relation
marked_here r us f =
    let k = r.relation in
    let whole = append_assoc (mark k) (bytes_of (codes_of r)) us in
    let short : 2 ≤ length (mark k) = omega (arith, mark_long k f.0) in
    let all : length (mark k) ≤ 2 = omega (arith, mark_long k f.0) in
    ap (take 2) whole ∙ take-append-le 2 (mark k) (bytes_of (codes_of r) ++ us) short ∙ take_all 2 (mark k) all

not_refused : (r : Row) (us : List ℕ) (fault : ReadFault) → Fact r → Refused (written r ++ us) fault → ⊥
not_refused r us (LoneByte at) f h = omega (arith, h, written_long r f, length-append (written r) us)
not_refused r us (UnknownMark at) f h = h.1 r.relation (f.0, marked_here r us f)
not_refused r us (Cut at) f h =
    let k : h.0 ≡ r.relation = mark_same h.0 r.relation h.1.0.0 f.0 (sym h.1.0.1 ∙ marked_here r us f) in
    omega (arith, h.1.1, ap places k, written_long r f, length-append (written r) us)

end_not_refused : (fault : ReadFault) → Refused [] fault → ⊥
end_not_refused (LoneByte at) h = omega (arith, h)
end_not_refused (UnknownMark at) h = omega (arith, h.0)
end_not_refused (Cut at) h = omega (arith, ap length h.1.0.1, mark_long h.0 h.1.0.0)

lone_not_marked : (bytes : List ℕ) (k : ℕ) → length bytes ≡ 1 → Marked k bytes → ⊥
lone_not_marked bytes k l m =
    let all : take 2 bytes ≡ bytes = take_all 2 bytes (omega arith) in
    omega (arith, ap length (sym all ∙ m.1), mark_long k m.0)

-- the file of some facts is the file of no others

starts_long : (r : Row) (us : List ℕ) → Fact r → [] ≡ written r ++ us → ⊥
starts_long r us f e = omega (arith, ap length e, length-append (written r) us, written_long r f)

pub file_same : (rs ss : List Row) → AllByRecursion Fact rs → AllByRecursion Fact ss → file rs ≡ file ss → rs ≡ ss
file_same [] [] f g e = refl
file_same [] (s ∷ ss) f g e = absurd (starts_long s (file ss) g.0 e)
file_same (r ∷ rs) [] f g e = absurd (starts_long r (file rs) f.0 (sym e))
file_same (r ∷ rs) (s ∷ ss) f g e =
    let p = written_same r s (file rs) (file ss) f.0 g.0 e in
    let same = p.0 in
    let more = file_same rs ss f.1 g.1 p.1 in
    cc

pub file_not_stopped : (rs ss : List Row) (rest : List ℕ) (fault : ReadFault) → AllByRecursion Fact rs → AllByRecursion Fact ss → file rs ≡ file ss ++ rest → Refused rest fault → ⊥
file_not_stopped [] [] rest fault f g e h = end_not_refused fault (subst (λ bs. Refused bs fault) (sym e) h)
file_not_stopped [] (s ∷ ss) rest fault f g e h =
    starts_long s (file ss ++ rest) g.0 (e ∙ append_assoc (written s) (file ss) rest)
file_not_stopped (r ∷ rs) [] rest fault f g e h =
    not_refused r (file rs) fault f.0 (subst (λ bs. Refused bs fault) (sym e) h)
file_not_stopped (r ∷ rs) (s ∷ ss) rest fault f g e h =
    let p = written_same r s (file rs) (file ss ++ rest) f.0 g.0 (e ∙ append_assoc (written s) (file ss) rest) in
    file_not_stopped rs ss rest fault f.1 g.1 p.1 h

-- so the reader has one answer only

same_fault : (bytes : List ℕ) (f g : ReadFault) → fault_offset f ≡ fault_offset g → Refused bytes f → Refused bytes g → f ≡ g
same_fault bytes (LoneByte at) (LoneByte at') e h i = ap LoneByte e
same_fault bytes (LoneByte at) (UnknownMark at') e h i = absurd (omega (arith, h, i.0))
same_fault bytes (LoneByte at) (Cut at') e h i = absurd (lone_not_marked bytes i.0 h i.1.0)
same_fault bytes (UnknownMark at) (LoneByte at') e h i = absurd (omega (arith, i, h.0))
same_fault bytes (UnknownMark at) (UnknownMark at') e h i = ap UnknownMark e
same_fault bytes (UnknownMark at) (Cut at') e h i = absurd (h.1 i.0 i.1.0)
same_fault bytes (Cut at) (LoneByte at') e h i = absurd (lone_not_marked bytes h.0 i h.1.0)
same_fault bytes (Cut at) (UnknownMark at') e h i = absurd (i.1 h.0 h.1.0)
same_fault bytes (Cut at) (Cut at') e h i = ap Cut e

not_both : (at at' at'' : ℕ) (bytes bytes' bytes'' : List ℕ) (o : Option Record) (f : ReadFault) → Answered at bytes (Ok o) at' bytes' → Answered at bytes (Err f) at'' bytes'' → ⊥
not_both at at' at'' bytes bytes' bytes'' None f a b = end_not_refused f (subst (λ bs. Refused bs f) a.0 b.1)
not_both at at' at'' bytes bytes' bytes'' (Some x) f a b =
    not_refused x.row bytes' f a.1 (subst (λ bs. Refused bs f) a.2 b.1)

same_record : (at at' at'' : ℕ) (bytes bytes' bytes'' : List ℕ) (o p : Option Record) → Answered at bytes (Ok o) at' bytes' → Answered at bytes (Ok p) at'' bytes'' → Same (Ok o) at' bytes' (Ok p) at'' bytes''
same_record at at' at'' bytes bytes' bytes'' None None a b = (refl, a.1 ∙ sym b.1, a.2 ∙ sym b.2)
same_record at at' at'' bytes bytes' bytes'' None (Some y) a b =
    absurd (starts_long y.row bytes'' b.1 (sym a.0 ∙ b.2))
same_record at at' at'' bytes bytes' bytes'' (Some x) None a b =
    absurd (starts_long x.row bytes' a.1 (sym b.0 ∙ a.2))
same_record at at' at'' bytes bytes' bytes'' (Some x) (Some y) a b =
    let p = written_same x.row y.row bytes' bytes'' a.1 b.1 (sym a.2 ∙ b.2) in
    let o : x.offset ≡ y.offset = a.0 ∙ sym b.0 in
    let r = p.0 in
    let e : x ≡ y = λ i. record { offset = o i; row = r i } in
    (ap (λ z. Ok (Some z)) e, a.3 ∙ ap (λ s. at + length (written s)) r ∙ sym b.3, p.1)

pub answered_once : (at at' : ℕ) (bytes bytes' : List ℕ) (r : Result (Option Record) ReadFault) → Answered at bytes r at' bytes' → (s : Result (Option Record) ReadFault) (at'' : ℕ) (bytes'' : List ℕ) → Answered at bytes s at'' bytes'' → Same r at' bytes' s at'' bytes''
answered_once at at' bytes bytes' (Ok o) a (Ok p) at'' bytes'' b = same_record at at' at'' bytes bytes' bytes'' o p a b
answered_once at at' bytes bytes' (Ok o) a (Err f) at'' bytes'' b =
    absurd (not_both at at' at'' bytes bytes' bytes'' o f a b)
answered_once at at' bytes bytes' (Err f) a (Ok p) at'' bytes'' b =
    absurd (not_both at at'' at' bytes bytes'' bytes' p f b a)
answered_once at at' bytes bytes' (Err f) a (Err g) at'' bytes'' b =
    (ap Err (same_fault bytes f g (a.0 ∙ sym b.0) a.1 b.1), a.2 ∙ sym b.2, a.3 ∙ sym b.3)

-- what one answer of the reader makes of a file that was read so far

pub one_more : (bytes : List ℕ) (xs ys : List Record) (at at' : ℕ) (left left' : List ℕ) (o : Option Record) (x : Record) → Before bytes xs at left → Answered at left (Ok o) at' left' → o ≡ Some x → ys ≡ xs ++ x ∷ [] → Before bytes ys at' left'
one_more bytes xs ys at at' left left' o x b a is y =
    let h : Answered at left (Ok (Some x)) at' left' = subst (λ p. Answered at left (Ok p) at' left') is a in
    let here : x.offset ≡ 0 + length (file b.rows) = omega (arith, h.0, b.long) in
    record {
      rows = b.rows ++ x.row ∷ [];
      facts = All-push Fact b.rows x.row b.facts h.1;
      are =
          y ∙ ap (λ t. t ++ x ∷ []) b.are ∙ ap (λ n. records 0 b.rows ++ record { offset = n; row = x.row } ∷ []) here
          ∙ sym (records_push 0 b.rows x.row);
      first =
          b.first ∙ ap (λ t. file b.rows ++ t) h.2 ∙ sym (append_assoc (file b.rows) (written x.row) left')
          ∙ ap (λ t. t ++ left') (sym (file_push b.rows x.row));
      long =
          let l : length (file (b.rows ++ x.row ∷ [])) ≡ length (file b.rows) + length (written x.row) =
          ap length (file_push b.rows x.row) ∙ length-append (file b.rows) (written x.row) in
          omega (arith, l, h.3, b.long);
    }

pub read_whole : (bytes : List ℕ) (xs : List Record) (at at' : ℕ) (left left' : List ℕ) (o : Option Record) → Before bytes xs at left → Answered at left (Ok o) at' left' → o ≡ None → ReadWhole bytes xs
read_whole bytes xs at at' left left' o b a is =
    let h : Answered at left (Ok None) at' left' = subst (λ p. Answered at left (Ok p) at' left') is a in
    (b.rows, (b.facts, b.are, b.first ∙ ap (λ t. file b.rows ++ t) h.0 ∙ append-nil (file b.rows)))

pub read_exact : (bytes : List ℕ) (xs : List Record) → ReadWhole bytes xs → (rs : List Row) → AllByRecursion Fact rs → bytes ≡ file rs → xs ≡ records 0 rs
read_exact bytes xs w rs f e = w.1.1 ∙ ap (records 0) (file_same w.0 rs w.1.0 f (sym w.1.2 ∙ e))

pub stopped : (bytes : List ℕ) (xs : List Record) (at at' : ℕ) (left left' : List ℕ) (fault : ReadFault) → Before bytes xs at left → Answered at left (Err fault) at' left' → Stopped bytes (Unread fault)
stopped bytes xs at at' left left' fault b a = (b.rows, (left, (b.facts, b.first, a.0 ∙ b.long, a.1)))

pub stopped_not_file : (bytes : List ℕ) (fault : ReadFault) → Stopped bytes (Unread fault) → (rs : List Row) → AllByRecursion Fact rs → bytes ≡ file rs → ⊥
stopped_not_file bytes fault s rs f e =
    file_not_stopped rs s.0 s.1.0 fault f s.1.1.0 (sym e ∙ s.1.1.1) s.1.1.3

-- the same, where the records are only counted

pub record Counted (bytes : List ℕ) (n at : ℕ) (rest : List ℕ) : Type 0 where
  pub records : List Record
  pub before : Before bytes records at rest
  pub many : n ≡ length records
  pub fewer : n ≤ at

records_many : (n : ℕ) (rs : List Row) → length (records n rs) ≡ length rs
records_many n [] = refl
records_many n (r ∷ rs) = ap suc (records_many (n + length (written r)) rs)

pub one_counted : (bytes : List ℕ) (n at at' : ℕ) (left left' : List ℕ) (o : Option Record) (x : Record) → Counted bytes n at left → Answered at left (Ok o) at' left' → o ≡ Some x → Counted bytes (n + 1) at' left'
one_counted bytes n at at' left left' o x k a is =
    let h : Answered at left (Ok (Some x)) at' left' = subst (λ p. Answered at left (Ok p) at' left') is a in
    record {
      records = k.records ++ x ∷ [];
      before =
          one_more bytes k.records (k.records ++ x ∷ []) at at' left left' o x k.before a is refl;
      many = omega (arith, k.many, length-append k.records (x ∷ []));
      fewer = omega (arith, k.fewer, h.3, written_long x.row h.1);
    }

pub counted_whole : (bytes : List ℕ) (n at at' : ℕ) (left left' : List ℕ) (o : Option Record) → Counted bytes n at left → Answered at left (Ok o) at' left' → o ≡ None → CountedWhole bytes n
counted_whole bytes n at at' left left' o k a is =
    let w = read_whole bytes k.records at at' left left' o k.before a is in
    (w.0, (w.1.0, k.many ∙ ap length w.1.1 ∙ records_many 0 w.0, w.1.2))

pub counted_exact : (bytes : List ℕ) (n : ℕ) → CountedWhole bytes n → (rs : List Row) → AllByRecursion Fact rs → bytes ≡ file rs → n ≡ length rs
counted_exact bytes n w rs f e = w.1.1 ∙ ap length (file_same w.0 rs w.1.0 f (sym w.1.2 ∙ e))

use Rattle.std.proofs.Common.{◌≡◌, ℕ, ◌*◌, ◌≤◌, [], length, IfOk, Ok, Err, vec_items, Result, sym, ap, ◌∙◌, subst, arith}
use Rattle.rows.specs.Adding.{joined}
use Rattle.rows.specs.Words.{gather, written}
use Rattle.rows.proofs.Addings.{grown_keeps}
use Rattle.rows.proofs.Spells.{grown_written}
use Rattle.list.specs.declared.List.{List}
use Rattle.list.specs.contracts.ListTable.TheImpl.{ghosts}
use Rattle.runs.specs.Promise.{Promised}
use Rattle.runs.proofs.Grows.{Grew, trace_grew}
use Rattle.runs.proofs.on_words.play_on_words.Goals as goal

both : {X Y : Type 0} (r : Result X Y) (P Q R : X → Type 0) → ((x : X) → P x → Q x → R x) → IfOk r P → IfOk r Q → IfOk r R
both (Ok x) P Q R f p q = f x p q
both (Err y) P Q R f p q = tt

pub returns : goal.returns
unfolding gather
returns g c =
    let s : List = c.make-table.result in
    let t : List = c.play.new.t in
    let m = c.make-table.ensures in
    let room : 4 * t.used ≤ length t.words.now = omega (arith, t.within, t.room) in
    let empty : ghosts.means.rows s ≡ [] = ap (λ (n : ℕ). gather s.words.now n) m.used in
    both c.play.result _ _ _
    (λ log played promised.
    let w : Grew ghosts.means s t = trace_grew ghosts.means played.1 in
    let words = grown_written {S = List} ghosts.means.grew (λ l. l.words.now) (λ l. l.used) (λ l r k h. (h.0, h.1)) s w.added t w.grown m.used room in
    let place = grown_keeps {S = List} ghosts.means.grew (λ l. l.words.ghost_name) (λ l r k h. h.4) s w.added t w.grown in (
      w.added,
      c.words-1.given.1.1 (sym (place ∙ m.place)) ∙ words ∙ ap (written w.added) m.words,
      subst (λ xs. Promised (vec_items log) xs) (w.held ∙ ap (λ xs. joined xs w.added) empty) promised,
    ))
    c.play.ensures.played (c.play.ensures.promised empty)

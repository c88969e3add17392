-- What `array::from_fn` leaves where each call computes one function of the index.
use Rattle.std.proofs.Common.{◌≡◌, ℕ, zero, suc, ◌+◌, ◌<◌, ◌≤◌, List, get_or, ◌∙◌, subst, ⊎_elim, arith}
use denote.Param.Members.{Mut}
use Rattle.std.specs.Fn.{Called}
use Rattle.std.specs.Array.{IsFromFnResult, IsFromFnResultFrom}
use Rattle.std.proofs.lemmas.Bool.{cases_lt}

module _ {F B : Type 0} (g : Mut F (ℕ × Unit {0}) B) (f : F) (v : ℕ → B) (step : (i : ℕ) (r : B) (q : F) → Called g f (i, tt) r q → (r ≡ v i) × (q ≡ f)) (ys : List B) (d : B) where
  turns : (n i : ℕ) → IsFromFnResultFrom g f ys i n → (k : ℕ) → i ≤ k → k < i + n → get_or ys k d ≡ v k
  turns zero i h k a b = absurd (omega arith)
  turns (suc n) i h k a b =
      let s = step i h.1 h.0 h.3 in
      ⊎_elim (λ l. turns n (i + 1) (subst (λ q. IsFromFnResultFrom g q ys (i + 1) n) s.1 h.4) k (omega arith) (omega arith))
      (λ l. (let e : i ≡ k = omega arith in subst (λ j. get_or ys j d ≡ v j) e (h.2.1 d ∙ s.0))) (cases_lt i k)

  pub from_fn_is : (n : ℕ) → IsFromFnResult g f ys n → (k : ℕ) → k < n → get_or ys k d ≡ v k
  from_fn_is n h k l = turns n 0 h.each k (omega arith) (omega arith)

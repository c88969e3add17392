-- The places number the admissible rows.
use Rattle.std.proofs.Common.{ℕ, sym, ap, arith}
use Rattle.bit_places.specs.Places.{row_of}
use Rattle.bit_places.specs.Enumerated.{Enumerated}
use Rattle.bit_places.proofs.Placed.{fit, unfit, fit_row, place_row, place_below, row_place, rows_rise, place_is, number_below, total, base_up}
use Rattle.bit_places.proofs.Sizes.{row_is}

pub enumerated : (w : ℕ) → Enumerated w
enumerated w =
    record {
      fit = λ i h. unfit w (row_of w i) (fit_row w i h);
      rise = rows_rise w;
      within = λ r a. place_below w r (fit w r a);
      back = λ r a. row_place w r (fit w r a);
      forth = place_row w;
      part = λ r a. (omega (arith, place_is w r (fit w r a)), omega (arith, place_is w r (fit w r a), number_below w r (fit w r a)));
      whole = λ k i l a b. sym (ap (λ r. r.relation) (row_is w i k l (omega (arith, base_up w k 40 l)) a b));
      all = total w;
    }

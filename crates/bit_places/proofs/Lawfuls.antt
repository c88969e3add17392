-- The law of a bit table.
use Rattle.std.proofs.Common.{◌≡◌, ℕ, ◌≤◌, Bool, true, false, cond, List, arith}
use Rattle.std.proofs.lemmas.List.FromFn.{length-map-range_with_len}
use Rattle.rows.specs.Tables.{Lawful}
use Rattle.bit_places.specs.Places.{size, base}
use Rattle.bit_places.specs.Marked.{marked}
use Rattle.bit_places.specs.Opened.{bit_limits, each_limit}
use Rattle.bit_places.proofs.Marks.{asc_marked, sound_marked, few_marked}
use Rattle.bit_places.proofs.Sizes.{base_most}

pub within : (w : ℕ) (live : Bool) (n : ℕ) → n ≡ cond live (base w 40) 0 → n ≤ base w 40
within w true n e = omega arith
within w false n e = omega arith

total_small : (w : ℕ) (live : Bool) → w ≤ 32 → cond live (base w 40) 0 ≤ 1310720
total_small w true h = omega (arith, base_most w h 40)
total_small w false h = omega arith

pub bits_lawful : (ws : List ℕ) (w n : ℕ) (live : Bool) → w ≤ 32 → n ≡ cond live (base w 40) 0 → Lawful (bit_limits live w) (marked w ws 0 n)
unfolding bit_limits each_limit
bits_lawful ws w n live h e =
    let l = within w live n e in
    record {
      ascending = asc_marked w ws 0 n (omega arith);
      sound = sound_marked w ws 0 n (omega arith);
      few = omega (arith, few_marked w ws 0 n);
      small = omega (arith, total_small w live h);
      narrow = omega arith;
      forty = length-map-range_with_len (λ k. cond live (size w k) 0) 0 40;
    }

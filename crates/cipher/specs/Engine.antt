-- Document 01, "The engine", over the cell width: schedule, rounds, the seven steps, turning. Document 000 has it in 2.2 (key), 2.3 to 2.6 (rounds and centre) and Figure 3; its M and Q are one mix here.
use Rattle.std.specs.Prelude.{ℕ, zero, suc, ◌+◌, ◌-◌, ◌*◌, ◌/◌, ◌%◌, ◌^◌}
use Rattle.words.specs.Digits.{◌⊕◌}
use Rattle.cells.specs.Cells.{Cipher, Below, cut, added, looked, shuffled, unshuffled, mixed, stepped, unstepped}
use Rattle.cells.specs.declared.Cells.{Cells}
use Rattle.cipher.specs.declared.Schedule.{Schedule}
use Rattle.cipher.specs.declared.State.{State}

-- "A schedule is four words: outer words w0 and w1, core word k0, centre word k1": cut into cells of m bits
abbrev pub schedule_of : ℕ → ℕ → ℕ → ℕ → ℕ → Schedule
schedule_of m w0 w1 k0 k1 = record { w0 = cut m w0; w1 = cut m w1; k0 = cut m k0; k1 = cut m k1 }

-- every word of a schedule, and a block and its tweak, are cells of m bits
pub record ScheduleBelow (m : ℕ) (s : Schedule) : Type 0 where
  pub w0 : Below m s.w0
  pub w1 : Below m s.w1
  pub k0 : Below m s.k0
  pub k1 : Below m s.k1

pub record StateBelow (m : ℕ) (x : State) : Type 0 where
  pub block : Below m x.block
  pub tweak : Below m x.tweak

-- "w0 rotated right by 1, plus w0 shifted right by 63", or by 16 m - 1 (document 000, 2.2): of n bits
abbrev pub rotated_right : ℕ → ℕ → ℕ
rotated_right n w = w % 2 * 2 ^ (n - 1) + w / 2

abbrev pub w1_from : ℕ → ℕ → ℕ
w1_from n w = rotated_right n w ⊕ w / 2 ^ (n - 1)

-- "A key (w0, k0) gives w1 = ..; and k1 = k0"
abbrev pub key_schedule : Cipher → ℕ → ℕ → Schedule
key_schedule c w0 k0 = schedule_of c.bits w0 (w1_from (16 * c.bits) w0) k0 k0

-- "A forward round with word t: add t, shuffle, mix, box on each cell. Its short form leaves out shuffle and mix."
unfoldable pub forward : Cipher → ℕ → Cells → Cells → Cells
forward c b x t = looked (c.box b) (mixed c (shuffled (added x t)))

unfoldable pub short_forward : Cipher → ℕ → Cells → Cells → Cells
short_forward c b x t = looked (c.box b) (added x t)

-- "A backward round is the exact inverse, steps in reverse order with the inverse box." "The mix is its own inverse."
unfoldable pub backward : Cipher → ℕ → Cells → Cells → Cells
backward c b x t = added (unshuffled (mixed c (looked (c.unbox b) x))) t

unfoldable pub short_backward : Cipher → ℕ → Cells → Cells → Cells
short_backward c b x t = added (looked (c.unbox b) x) t

-- "(short for i = 0)"
abbrev pub forward_at : Cipher → ℕ → ℕ → Cells → Cells → Cells
forward_at c b zero x t = short_forward c b x t
forward_at c b (suc i) x t = forward c b x t

abbrev pub backward_at : Cipher → ℕ → ℕ → Cells → Cells → Cells
backward_at c b zero x t = short_backward c b x t
backward_at c b (suc i) x t = backward c b x t

-- "k0 + tweak + ci", and "k0 + alpha + tweak + ci", for a constant ci
unfoldable pub forward_word : Schedule → Cells → Cells → Cells
forward_word s ci t = added (added s.k0 t) ci

unfoldable pub backward_word : Cipher → Schedule → Cells → Cells → Cells
backward_word c s ci t = added (added (added s.k0 c.alpha) t) ci

-- Step 2, for one i: "forward round with k0 + tweak + ci (short for i = 0), then step the tweak"
unfoldable pub forward_step : Cipher → ℕ → Schedule → ℕ → State → State
forward_step c b s i x =
    record {
      block = forward_at c b i x.block (forward_word s (c.constant i) x.tweak);
      tweak = stepped c x.tweak;
    }

-- "For i from 0 to r-1"
abbrev pub forward_steps : Cipher → ℕ → Schedule → ℕ → State → State
forward_steps c b s zero x = x
forward_steps c b s (suc i) x = forward_step c b s i (forward_steps c b s i x)

-- Step 4: "Shuffle, mix, add k1, undo the shuffle"
unfoldable pub centre : Cipher → Cells → Cells → Cells
centre c k1 x = unshuffled (added (mixed c (shuffled x)) k1)

-- Steps 3 to 5: "Forward full round with w1 + tweak", step 4, "Backward full round with w0 + tweak"
unfoldable pub middle : Cipher → ℕ → Schedule → State → State
middle c b s x =
    record {
      block = backward c b (centre c s.k1 (forward c b x.block (added s.w1 x.tweak))) (added s.w0 x.tweak);
      tweak = x.tweak;
    }

-- Step 6, for one i: "step the tweak back, backward round with k0 + alpha + tweak + ci (short for i = 0)"
unfoldable pub backward_step : Cipher → ℕ → Schedule → ℕ → State → State
backward_step c b s i x =
    record {
      block = backward_at c b i x.block (backward_word c s (c.constant i) (unstepped c x.tweak));
      tweak = unstepped c x.tweak;
    }

-- "For i from r-1 down to 0"
abbrev pub backward_steps : Cipher → ℕ → Schedule → ℕ → State → State
backward_steps c b s zero x = x
backward_steps c b s (suc i) x = backward_steps c b s i (backward_step c b s i x)

-- "Steps of the engine": 1. "Add w0 to the block." 2 to 6 as above. 7. "Add w1."
unfoldable pub engine : Cipher → ℕ → ℕ → Schedule → Cells → Cells → Cells
engine c b r s t p =
    added (backward_steps c b s r (middle c b s (forward_steps c b s r record { block = added p s.w0; tweak = t }))).block s.w1

-- "Turning (w0, w1, k0, k1) gives (w1, w0, k0 + alpha, mix of k1)."
unfoldable pub turned : Cipher → Schedule → Schedule
turned c s = record { w0 = s.w1; w1 = s.w0; k0 = added s.k0 c.alpha; k1 = mixed c s.k1 }

-- The laws of rounds and steps, over the cell width: they keep to the cells, and a backward round undoes a forward one.
use mathlib.Core.Path.{◌≡◌}
use Prim.Native.Nat.{ℕ, zero, suc, ◌<◌, ◌≤◌}
use native.Mathlib.Omega.{arith}
use Rattle.cells.specs.Cells.{Cipher, Below, looked, shuffled, unshuffled, mixed}
use Rattle.cells.specs.Boxes.{sbox_number}
use Rattle.cells.specs.declared.Cells.{Cells}
use Rattle.cells.specs.declared.Sbox.{Sbox}
use Rattle.cells.specs.declared.Sbox.TheVariants.{Sigma0, Sigma1, Sigma2}
use Rattle.cells.proofs.Laws.{added_below, added_twice}
use Rattle.cells.proofs.Mix.{mixed_added}
use Rattle.cells.proofs.Lawful.{Lawful, shuffled_below, unshuffled_below, unshuffle_shuffle, shuffle_unshuffle, mix_below, mix_twice, boxed_below, unboxed_below, unbox_boxed, box_unboxed, stepped_below, unstepped_below}
use Rattle.cipher.specs.Engine.{ScheduleBelow, StateBelow, forward, short_forward, backward, short_backward, forward_at, backward_at, forward_word, backward_word, forward_step, forward_steps, centre, middle, backward_step, backward_steps, turned}
use Rattle.cipher.specs.declared.Schedule.{Schedule}
use Rattle.cipher.specs.declared.State.{State}

-- the number of a box is below 3
pub sbox_below : (sbox : Sbox) → sbox_number sbox < 3
sbox_below Sigma0 = omega arith
sbox_below Sigma1 = omega arith
sbox_below Sigma2 = omega arith

pub sbox_at_most : (sbox : Sbox) → sbox_number sbox ≤ 2
sbox_at_most Sigma0 = omega arith
sbox_at_most Sigma1 = omega arith
sbox_at_most Sigma2 = omega arith

module _ {c : Cipher} (k : Lawful c) {b : ℕ} (n : b < 3) {x t : Cells} (p : Below c.bits x) (q : Below c.bits t) where
  pub forward_below : Below c.bits (forward c b x t)
  unfolding forward
  forward_below = boxed_below k (mix_below k (shuffled_below k (added_below p q))) b n

  pub short_forward_below : Below c.bits (short_forward c b x t)
  unfolding short_forward
  short_forward_below = boxed_below k (added_below p q) b n

  pub backward_below : Below c.bits (backward c b x t)
  unfolding backward
  backward_below = added_below (unshuffled_below k (mix_below k (unboxed_below k p b n))) q

  pub short_backward_below : Below c.bits (short_backward c b x t)
  unfolding short_backward
  short_backward_below = added_below (unboxed_below k p b n) q

  pub backward_forward : backward c b (forward c b x t) t ≡ x
  unfolding forward backward
  backward_forward =
      let sum = added_below p q in
      let moved = shuffled_below k sum in
      rw (unbox_boxed k (mix_below k moved) b n, mix_twice k moved, unshuffle_shuffle k sum) (added_twice x t p.size)

  pub forward_backward : forward c b (backward c b x t) t ≡ x
  unfolding forward backward
  forward_backward =
      let out = unboxed_below k p b n in
      let mid = mix_below k out in
      rw (added_twice (unshuffled (mixed c (looked (c.unbox b) x))) t (unshuffled_below k mid).size, shuffle_unshuffle k mid, mix_twice k out) (box_unboxed k p b n)

  short_there : short_backward c b (short_forward c b x t) t ≡ x
  unfolding short_forward short_backward
  short_there = rw (unbox_boxed k (added_below p q) b n) (added_twice x t p.size)

  short_back : short_forward c b (short_backward c b x t) t ≡ x
  unfolding short_forward short_backward
  short_back = rw (added_twice (looked (c.unbox b) x) t (unboxed_below k p b n).size) (box_unboxed k p b n)

  pub forward_at_below : (i : ℕ) → Below c.bits (forward_at c b i x t)
  forward_at_below zero = short_forward_below
  forward_at_below (suc i) = forward_below

  pub backward_at_below : (i : ℕ) → Below c.bits (backward_at c b i x t)
  backward_at_below zero = short_backward_below
  backward_at_below (suc i) = backward_below

  pub backward_forward_at : (i : ℕ) → backward_at c b i (forward_at c b i x t) t ≡ x
  backward_forward_at zero = short_there
  backward_forward_at (suc i) = backward_forward

  pub forward_backward_at : (i : ℕ) → forward_at c b i (backward_at c b i x t) t ≡ x
  forward_backward_at zero = short_back
  forward_backward_at (suc i) = forward_backward

-- ---- the centre: adding the mixed word after the mix undoes adding the word after it

module _ {c : Cipher} (k : Lawful c) {x w : Cells} (p : Below c.bits x) (q : Below c.bits w) where
  pub centre_below : Below c.bits (centre c w x)
  unfolding centre
  centre_below = unshuffled_below k (added_below (mix_below k (shuffled_below k p)) q)

  pub centre_twice : centre c (mixed c w) (centre c w x) ≡ x
  unfolding centre
  centre_twice =
      let moved = shuffled_below k p in
      rw (shuffle_unshuffle k (added_below (mix_below k moved) q), mixed_added c.bits c.rows (mixed c (shuffled x)) w, mix_twice k moved, added_twice (shuffled x) (mixed c w) moved.size)
      (unshuffle_shuffle k p)

-- ---- steps 2 to 6

module _ {c : Cipher} (k : Lawful c) {s : Schedule} (g : ScheduleBelow c.bits s) where
  pub forward_word_below : {ci t : Cells} → Below c.bits ci → Below c.bits t → Below c.bits (forward_word s ci t)
  unfolding forward_word
  forward_word_below p q = added_below (added_below g.k0 q) p

  pub backward_word_below : {ci t : Cells} → Below c.bits ci → Below c.bits t → Below c.bits (backward_word c s ci t)
  unfolding backward_word
  backward_word_below p q = added_below (added_below (added_below g.k0 k.alpha) q) p

  module _ {b : ℕ} (n : b < 3) where
    pub forward_step_below : (i : ℕ) {x : State} → StateBelow c.bits x → StateBelow c.bits (forward_step c b s i x)
    unfolding forward_step
    forward_step_below i h =
        record {
          block = forward_at_below k n h.block (forward_word_below (k.constant i) h.tweak) i;
          tweak = stepped_below k h.tweak;
        }

    pub forward_steps_below : (i : ℕ) {x : State} → StateBelow c.bits x → StateBelow c.bits (forward_steps c b s i x)
    forward_steps_below zero h = h
    forward_steps_below (suc i) h = forward_step_below i (forward_steps_below i h)

    pub middle_below : {x : State} → StateBelow c.bits x → StateBelow c.bits (middle c b s x)
    unfolding middle
    middle_below h =
        record {
          block = backward_below k n (centre_below k (forward_below k n h.block (added_below g.w1 h.tweak)) g.k1) (added_below g.w0 h.tweak);
          tweak = h.tweak;
        }

    pub backward_step_below : (i : ℕ) {x : State} → StateBelow c.bits x → StateBelow c.bits (backward_step c b s i x)
    unfolding backward_step
    backward_step_below i h =
        let t = unstepped_below k h.tweak in
        record {
          block = backward_at_below k n h.block (backward_word_below (k.constant i) t) i;
          tweak = t;
        }

    pub backward_steps_below : (i : ℕ) {x : State} → StateBelow c.bits x → StateBelow c.bits (backward_steps c b s i x)
    backward_steps_below zero h = h
    backward_steps_below (suc i) h = backward_steps_below i (backward_step_below i h)

  pub turned_below : ScheduleBelow c.bits (turned c s)
  unfolding turned
  turned_below = record { w0 = g.w1; w1 = g.w0; k0 = added_below g.k0 k.alpha; k1 = mix_below k g.k1 }

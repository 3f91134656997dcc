-- A turn of each loop of the engine, for an i above 0, where the rounds are full ones.
use mathlib.Core.Path.{◌≡◌, ap, ◌∙◌}
use Prim.Native.Nat.{ℕ, zero, suc, ◌+◌, ◌-◌, ◌<◌, ◌≤◌}
use native.Mathlib.Numerals.{add-one, sub-one}
use native.Mathlib.Omega.{arith}
use Rattle.cells.specs.Cells.{Cipher, added, stepped, unstepped}
use Rattle.cells.specs.declared.Cells.{Cells}
use Rattle.cells.proofs.Lawful.{Lawful}
use Rattle.cipher.specs.Engine.{ScheduleBelow, StateBelow, forward, backward, forward_word, backward_word, forward_step, forward_steps, middle, backward_step, backward_steps, engine}
use Rattle.cipher.specs.declared.Schedule.{Schedule}
use Rattle.cipher.specs.declared.State.{State}
use Rattle.cipher.proofs.Rounds.{forward_step_below, backward_step_below}

-- what a forward and a backward step make of the state x, with the constant ci
abbrev Forward : Cipher → ℕ → Schedule → State → Cells → State → Type 0
Forward c b s x ci r = (r.block ≡ forward c b x.block (forward_word s ci x.tweak)) × (r.tweak ≡ stepped c x.tweak)

abbrev Backward : Cipher → ℕ → Schedule → State → Cells → State → Type 0
Backward c b s x ci r = (r.block ≡ backward c b x.block (backward_word c s ci (unstepped c x.tweak))) × (r.tweak ≡ unstepped c x.tweak)

module _ (c : Cipher) (b : ℕ) (s : Schedule) (x : State) {ci : Cells} {r : State} where
  forward_step_is : (i : ℕ) → 1 ≤ i → ci ≡ c.constant i → Forward c b s x ci r → r ≡ forward_step c b s i x
  unfolding forward_step
  forward_step_is zero l k e = absurd (omega arith)
  forward_step_is (suc i) l k e =
      let block = e.0 ∙ ap (λ (a : Cells). forward c b x.block (forward_word s a x.tweak)) k in
      λ j. record { block = block j; tweak = e.1 j }

  backward_step_is : (i : ℕ) → 1 ≤ i → ci ≡ c.constant i → Backward c b s x ci r → r ≡ backward_step c b s i x
  unfolding backward_step
  backward_step_is zero l k e = absurd (omega arith)
  backward_step_is (suc i) l k e =
      let block = e.0 ∙ ap (λ (a : Cells). backward c b x.block (backward_word c s a (unstepped c x.tweak))) k in
      λ j. record { block = block j; tweak = e.1 j }

  -- what i steps make of a start, the next step takes on
  pub forward_step_again : (i : ℕ) → 1 ≤ i → ci ≡ c.constant i → Forward c b s x ci r
      → {x0 : State} → ((y : State) → x0 ≡ forward_steps c b s 1 y → x ≡ forward_steps c b s i y)
      → (y : State) → x0 ≡ forward_steps c b s 1 y → r ≡ forward_steps c b s (i + 1) y
  forward_step_again i l q e inv y p = rw add-one (forward_step_is i l q e ∙ ap (forward_step c b s i) (inv y p))

  -- what is left to do from i, is what is left from i - 1 after the step
  pub backward_step_again : (i : ℕ) → 1 < i → ci ≡ c.constant (i - 1) → Backward c b s x ci r
      → {w : State} → backward_steps c b s i x ≡ w → backward_steps c b s (i - 1) r ≡ w
  backward_step_again zero l q e inv = absurd (omega arith)
  backward_step_again (suc i) l q e inv = rw sub-one (ap (backward_steps c b s i) (backward_step_is i (omega arith) (rw sub-one at q) e) ∙ inv)

  -- both keep block and tweak to the bits of cells
  pub forward_step_keeps : Lawful c → ScheduleBelow c.bits s → b < 3 → StateBelow c.bits x → (i : ℕ) → 1 ≤ i → ci ≡ c.constant i → Forward c b s x ci r → StateBelow c.bits r
  forward_step_keeps k g n h i l q e = rw (forward_step_is i l q e) (forward_step_below k g n i h)

  pub backward_step_keeps : Lawful c → ScheduleBelow c.bits s → b < 3 → StateBelow c.bits x → (i : ℕ) → 1 ≤ i → ci ≡ c.constant i → Backward c b s x ci r → StateBelow c.bits r
  backward_step_keeps k g n h i l q e = rw (backward_step_is i l q e) (backward_step_below k g n i h)

-- the steps put together
pub whole : (c : Cipher) (b r : ℕ) (s : Schedule) (t p : Cells) (x : State) (i j : ℕ) {d m : State} {answer : Cells}
    → d ≡ forward_steps c b s i record { block = added p s.w0; tweak = t } → i ≡ r
    → m ≡ middle c b s d
    → backward_steps c b s j x ≡ backward_steps c b s r m → j ≡ 1
    → answer ≡ added (backward_steps c b s 1 x).block s.w1
    → answer ≡ engine c b r s t p
unfolding engine
whole c b r s t p x i j {d} {m} {answer} hd hi hm hu hj ha =
    let left : backward_steps c b s 1 x ≡ backward_steps c b s r m = rw hj at hu in
    let came : m ≡ middle c b s (forward_steps c b s r record { block = added p s.w0; tweak = t }) = hm ∙ ap (middle c b s) (rw hi at hd) in
    ha ∙ ap (λ (y : State). added y.block s.w1) (left ∙ ap (backward_steps c b s r) came)

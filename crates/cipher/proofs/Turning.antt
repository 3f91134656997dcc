-- Demand 3, over the cell width: the engine under the turned schedule undoes the engine under the first, in either order,
-- and turning twice gives the first schedule back. Each step under the turned schedule undoes the step that answers it.
use mathlib.Core.Path.{◌≡◌, refl, sym, ap, ◌∙◌}
use Prim.Native.Nat.{ℕ, zero, suc, ◌<◌}
use Rattle.cells.specs.Cells.{Cipher, Below, added, mixed, stepped, unstepped}
use Rattle.cells.specs.declared.Cells.{Cells}
use Rattle.cells.proofs.Laws.{added_below, added_twice}
use Rattle.cells.proofs.Lawful.{Lawful, mix_twice, unstep_stepped, step_unstepped, unstepped_below}
use Rattle.cipher.specs.Engine.{ScheduleBelow, StateBelow, backward, forward_at, backward_at, forward_word, backward_word, forward_step, forward_steps, centre, middle, backward_step, backward_steps, engine, turned}
use Rattle.cipher.specs.declared.Schedule.{Schedule}
use Rattle.cipher.specs.declared.State.{State}
use Rattle.cipher.proofs.Rounds.{forward_below, centre_below, backward_forward, forward_backward, backward_forward_at, forward_backward_at, forward_word_below, backward_word_below, forward_steps_below, middle_below, backward_step_below, backward_steps_below, centre_twice, turned_below}

module _ {c : Cipher} (k : Lawful c) {s : Schedule} (g : ScheduleBelow c.bits s) where
  pub turned_twice : turned c (turned c s) ≡ s
  unfolding turned
  turned_twice = λ i. record { w0 = s.w0; w1 = s.w1; k0 = added_twice s.k0 c.alpha g.k0.size i; k1 = mix_twice k g.k1 i }

  -- k0 + alpha + alpha is k0
  words_agree : (ci t : Cells) → backward_word c (turned c s) ci t ≡ forward_word s ci t
  unfolding turned backward_word forward_word
  words_agree ci t = rw (added_twice s.k0 c.alpha g.k0.size)

  module _ {b : ℕ} (n : b < 3) where
    backward_step_forward_step : (i : ℕ) {x : State} → StateBelow c.bits x → backward_step c b (turned c s) i (forward_step c b s i x) ≡ x
    unfolding backward_step forward_step
    backward_step_forward_step i {x} h =
        let e : unstepped c (stepped c x.tweak) ≡ x.tweak = unstep_stepped k h.tweak in
        let w : backward_word c (turned c s) (c.constant i) (unstepped c (stepped c x.tweak)) ≡ forward_word s (c.constant i) x.tweak =
        ap (backward_word c (turned c s) (c.constant i)) e ∙ words_agree (c.constant i) x.tweak in
        let v : backward_at c b i (forward_at c b i x.block (forward_word s (c.constant i) x.tweak)) (backward_word c (turned c s) (c.constant i) (unstepped c (stepped c x.tweak))) ≡ x.block =
        ap (backward_at c b i (forward_at c b i x.block (forward_word s (c.constant i) x.tweak))) w
        ∙ backward_forward_at k n h.block (forward_word_below k g (k.constant i) h.tweak) i in
        λ j. record { block = v j; tweak = e j }

    forward_step_backward_step : (i : ℕ) {x : State} → StateBelow c.bits x → forward_step c b (turned c s) i (backward_step c b s i x) ≡ x
    unfolding backward_step forward_step turned forward_word backward_word
    forward_step_backward_step i {x} h =
        λ j. record {
          block = forward_backward_at k n h.block (backward_word_below k g (k.constant i) (unstepped_below k h.tweak)) i j;
          tweak = step_unstepped k h.tweak j;
        }

    backward_steps_forward_steps : (i : ℕ) {x : State} → StateBelow c.bits x → backward_steps c b (turned c s) i (forward_steps c b s i x) ≡ x
    backward_steps_forward_steps zero h = refl
    backward_steps_forward_steps (suc i) h = ap (backward_steps c b (turned c s) i) (backward_step_forward_step i (forward_steps_below k g n i h)) ∙ backward_steps_forward_steps i h

    forward_steps_backward_steps : (i : ℕ) {x : State} → StateBelow c.bits x → forward_steps c b (turned c s) i (backward_steps c b s i x) ≡ x
    forward_steps_backward_steps zero h = refl
    forward_steps_backward_steps (suc i) h = ap (forward_step c b (turned c s) i) (forward_steps_backward_steps i (backward_step_below k g n i h)) ∙ forward_step_backward_step i h

    middle_twice : {x : State} → StateBelow c.bits x → middle c b (turned c s) (middle c b s x) ≡ x
    unfolding middle turned
    middle_twice {x} h =
        let in1 = added_below g.w1 h.tweak in
        let in0 = added_below g.w0 h.tweak in
        let y = forward_below k n h.block in1 in
        λ j. record {
          block =
              (ap (λ (z : Cells). backward c b (centre c (mixed c s.k1) z) (added s.w1 x.tweak)) (forward_backward k n (centre_below k y g.k1) in0)
              ∙ ap (λ (z : Cells). backward c b z (added s.w1 x.tweak)) (centre_twice k y g.k1)
              ∙ backward_forward k n h.block in1) j;
          tweak = x.tweak;
        }

    -- the tweak goes its way whatever the schedule is
    same_tweak : (s1 s2 : Schedule) (i : ℕ) (x y : State) → x.tweak ≡ y.tweak → (backward_steps c b s1 i x).tweak ≡ (backward_steps c b s2 i y).tweak
    unfolding backward_step
    same_tweak s1 s2 zero x y e = e
    same_tweak s1 s2 (suc i) x y e = same_tweak s1 s2 i (backward_step c b s1 i x) (backward_step c b s2 i y) (ap (unstepped c) e)

    pub undone : (r : ℕ) {t p : Cells} → Below c.bits t → Below c.bits p → engine c b r (turned c s) t (engine c b r s t p) ≡ p
    unfolding engine turned middle
    undone r {t} {p} ht hp =
        let start : State = record { block = added p s.w0; tweak = t } in
        let h : StateBelow c.bits start = record { block = added_below hp g.w0; tweak = ht } in
        let d : State = forward_steps c b s r start in
        let hd : StateBelow c.bits d = forward_steps_below k g n r h in
        let m : State = middle c b s d in
        let hm : StateBelow c.bits m = middle_below k g n hd in
        let v : State = backward_steps c b s r m in
        let tw : v.tweak ≡ t = same_tweak s (turned c s) r m d refl ∙ ap (λ (x : State). x.tweak) (backward_steps_forward_steps r h) in
        let again : ◌≡◌ {A = State} record { block = added (added v.block s.w1) s.w1; tweak = t } v =
        λ j. record { block = added_twice v.block s.w1 (backward_steps_below k g n r hm).block.size j; tweak = sym tw j } in
        ap (λ (x : State). added (backward_steps c b (turned c s) r (middle c b (turned c s) (forward_steps c b (turned c s) r x))).block s.w0) again
        ∙ ap (λ (x : State). added (backward_steps c b (turned c s) r (middle c b (turned c s) x)).block s.w0) (forward_steps_backward_steps r hm)
        ∙ ap (λ (x : State). added (backward_steps c b (turned c s) r x).block s.w0) (middle_twice hd)
        ∙ ap (λ (x : State). added x.block s.w0) (backward_steps_forward_steps r h)
        ∙ added_twice p s.w0 hp.size

-- the other order: the turned schedule's turn is the first schedule
pub redone : {c : Cipher} (k : Lawful c) {s : Schedule} (g : ScheduleBelow c.bits s) {b : ℕ} (n : b < 3) (r : ℕ) {t p : Cells}
    → Below c.bits t → Below c.bits p → engine c b r s t (engine c b r (turned c s) t p) ≡ p
redone {c} k {s} g {b} n r {t} {p} ht hp =
    ap (λ (z : Schedule). engine c b r z t (engine c b r (turned c s) t p)) (sym (turned_twice k g)) ∙ undone k (turned_below k g) n r ht hp

pub engine_below : {c : Cipher} (k : Lawful c) {s : Schedule} (g : ScheduleBelow c.bits s) {b : ℕ} (n : b < 3) (r : ℕ) {t p : Cells}
    → Below c.bits t → Below c.bits p → Below c.bits (engine c b r s t p)
unfolding engine
engine_below k g n r ht hp =
    added_below (backward_steps_below k g n r (middle_below k g n (forward_steps_below k g n r record { block = added_below hp g.w0; tweak = ht }))).block g.w1

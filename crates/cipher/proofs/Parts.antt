-- Rounds, words and turning put together from the calls that the code makes for them, in the order of the calls, over the cell width.
use mathlib.Core.Path.{◌≡◌, ap, ap₂, ◌∙◌}
use Prim.Native.Nat.{ℕ}
use Rattle.cells.specs.Cells.{Cipher, added, looked, shuffled, unshuffled, mixed, stepped, unstepped}
use Rattle.cells.specs.declared.Cells.{Cells}
use Rattle.cipher.specs.Engine.{forward, short_forward, backward, short_backward, forward_word, backward_word, forward_step, forward_steps, centre, middle, backward_step, backward_steps, turned}
use Rattle.cipher.specs.declared.Schedule.{Schedule}
use Rattle.cipher.specs.declared.State.{State}

-- ---- rounds

module _ (c : Cipher) (b : ℕ) (x t : Cells) where
  pub forward_parts : {p q r s : Cells} → p ≡ added x t → q ≡ shuffled p → r ≡ mixed c q → s ≡ looked (c.box b) r → s ≡ forward c b x t
  unfolding forward
  forward_parts e f g h = h ∙ ap (looked (c.box b)) (g ∙ ap (mixed c) (f ∙ ap shuffled e))

  pub short_forward_parts : {p s : Cells} → p ≡ added x t → s ≡ looked (c.box b) p → s ≡ short_forward c b x t
  unfolding short_forward
  short_forward_parts e h = h ∙ ap (looked (c.box b)) e

  pub backward_parts : {p q r s : Cells} → p ≡ looked (c.unbox b) x → q ≡ mixed c p → r ≡ unshuffled q → s ≡ added r t → s ≡ backward c b x t
  unfolding backward
  backward_parts e f g h = h ∙ ap (λ (a : Cells). added a t) (g ∙ ap unshuffled (f ∙ ap (mixed c) e))

  pub short_backward_parts : {p s : Cells} → p ≡ looked (c.unbox b) x → s ≡ added p t → s ≡ short_backward c b x t
  unfolding short_backward
  short_backward_parts e h = h ∙ ap (λ (a : Cells). added a t) e

-- ---- steps 3 to 5

module _ (c : Cipher) (b : ℕ) (x t w : Cells) {p q r s v : Cells} where
  -- steps 3 and 4: the forward round, then the centre
  pub entered : (k : Cells) {p' q' r' s' : Cells} → v ≡ added w t → p ≡ added x v → q ≡ shuffled p → r ≡ mixed c q → s ≡ looked (c.box b) r
      → p' ≡ shuffled s → q' ≡ mixed c p' → r' ≡ added q' k → s' ≡ unshuffled r'
      → s' ≡ centre c k (forward c b x (added w t))
  unfolding centre
  entered k e0 e1 e2 e3 e4 e5 e6 e7 e8 =
      e8 ∙ ap unshuffled (e7 ∙ ap (λ (a : Cells). added a k) (e6 ∙ ap (mixed c) (e5 ∙ ap shuffled (forward_parts c b x (added w t) (e1 ∙ ap (added x) e0) e2 e3 e4))))

  -- step 5: the backward round
  pub left : p ≡ looked (c.unbox b) x → q ≡ mixed c p → r ≡ unshuffled q → v ≡ added w t → s ≡ added r v → s ≡ backward c b x (added w t)
  left e1 e2 e3 e0 e4 = backward_parts c b x (added w t) e1 e2 e3 (e4 ∙ ap (added r) e0)

pub middle_parts : (c : Cipher) (b : ℕ) (s : Schedule) (x : State) {half block : Cells} → half ≡ centre c s.k1 (forward c b x.block (added s.w1 x.tweak))
    → block ≡ backward c b half (added s.w0 x.tweak) → ◌≡◌ {A = State} record { block = block; tweak = x.tweak } (middle c b s x)
unfolding middle
middle_parts c b s x e f = ap (λ (a : Cells). record { block = a; tweak = x.tweak }) (f ∙ ap (λ (a : Cells). backward c b a (added s.w0 x.tweak)) e)

-- ---- steps 1, 2, 6 and 7, and turning

module _ (c : Cipher) (s : Schedule) (ci t : Cells) where
  pub backward_word_parts : {alpha stepped_back word : Cells} → alpha ≡ c.alpha → stepped_back ≡ unstepped c t → word ≡ added (added (added s.k0 alpha) stepped_back) ci → word ≡ backward_word c s ci (unstepped c t)
  unfolding backward_word
  backward_word_parts e f h = h ∙ ap₂ (λ (a u : Cells). added (added (added s.k0 a) u) ci) e f

module _ (c : Cipher) (b : ℕ) (s : Schedule) where
  -- step 1, and step 2 for i = 0
  pub first_parts : (t p : Cells) {x word block tweak : Cells} → x ≡ added p s.w0 → word ≡ forward_word s (c.constant 0) t → block ≡ short_forward c b x word → tweak ≡ stepped c t
      → ◌≡◌ {A = State} record { block = block; tweak = tweak } (forward_steps c b s 1 record { block = added p s.w0; tweak = t })
  unfolding forward_step
  first_parts t p e f g h = let block = g ∙ ap₂ (short_forward c b) e f in λ i. record { block = block i; tweak = h i }

  -- step 6 for i = 0, and step 7
  pub last_parts : (x : State) {word block answer : Cells} → word ≡ backward_word c s (c.constant 0) (unstepped c x.tweak) → block ≡ short_backward c b x.block word → answer ≡ added block s.w1
      → answer ≡ added (backward_steps c b s 1 x).block s.w1
  unfolding backward_step
  last_parts x e f g = g ∙ ap (λ (a : Cells). added a s.w1) (f ∙ ap (short_backward c b x.block) e)

pub turned_parts : (c : Cipher) (s : Schedule) {alpha core centre : Cells} {u : Schedule} → alpha ≡ c.alpha → core ≡ added s.k0 alpha → centre ≡ mixed c s.k1
    → u ≡ record { w0 = s.w1; w1 = s.w0; k0 = core; k1 = centre } → u ≡ turned c s
unfolding turned
turned_parts c s e f g h = h ∙ ap₂ (λ (a k : Cells). record { w0 = s.w1; w1 = s.w0; k0 = a; k1 = k }) (f ∙ ap (added s.k0) e) g

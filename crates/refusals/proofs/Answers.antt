-- Document 01, "What a refused caller gets": which refusals a call can give, and that "Lent memory is unchanged by all of them".
use Prim.Native.Nat.{ℕ, ◌/◌, ◌%◌, ◌^◌, ◌<◌, ◌≤◌}
use native.Mathlib.Omega.{arith}
use mathlib.Core.Bool.{Bool, true, false, false≢true}
use mathlib.Core.Path.{◌≡◌, refl, sym, ap, ◌∙◌}
use mathlib.Core.List.{List, ◌++◌}
use lib.ListN.{length, drop}
use Rattle.words.specs.Cases.{if_le, if_yes}
use Rattle.words.specs.Lists.{among}
use Rattle.words.proofs.Cases.{le_case, gt_case, le_either}
use Rattle.refusals.specs.Refusals.{number_of, place_of, Answer, returned_of, giving}
use Rattle.std.specs.Prelude.{Ok, Err}
use Rattle.refusals.specs.declared.Refusal.{Refusal}
use Rattle.refusals.specs.declared.Refusal.TheVariants.{Settings, Length, Serial, SealedSize, Room, Disagrees, Line, RepeatedSerial, SerialListFull, TooLarge}

-- the refusal's number, or 0
abbrev refusal_in : Answer → ℕ
refusal_in (Ok n) = 0
refusal_in (Err r) = number_of r

abbrev wrote : Answer → Bool
wrote (Ok n) = true
wrote (Err r) = false

-- what `kk_refusal` and `kk_count` of the header take out of the returned number
pub refusal_shown : (r : Refusal) → place_of r < 2 ^ 32 → (returned_of (Err r) / 2 ^ 56 ≡ number_of r) × (returned_of (Err r) % 2 ^ 32 ≡ place_of r)
refusal_shown Settings h = (refl, refl)
refusal_shown Length h = (refl, refl)
refusal_shown Serial h = (refl, refl)
refusal_shown SealedSize h = (refl, refl)
refusal_shown Room h = (refl, refl)
refusal_shown Disagrees h = (refl, refl)
refusal_shown (Line p) h = (omega (arith, h), omega (arith, h))
refusal_shown RepeatedSerial h = (refl, refl)
refusal_shown SerialListFull h = (refl, refl)
refusal_shown TooLarge h = (refl, refl)

pub count_shown : (n : ℕ) → n < 2 ^ 32 → (returned_of (Ok n) / 2 ^ 56 ≡ 0) × (returned_of (Ok n) % 2 ^ 32 ≡ n)
count_shown n h = (omega (arith, h), omega (arith, h))

-- an answer is not both written and refused
pub not_both : {k : ℕ} {r : Refusal} {o p : List ℕ} → ◌≡◌ {A = Answer × List ℕ} (Ok k, o) (Err r, p) → ⊥
not_both e = false≢true (sym (ap (λ (x : Answer × List ℕ). wrote x.0) e))

-- a call that was lent out, and answered and left x, can give no refusals but these, and leaves the memory as it was in each
pub record Can (ns out : List ℕ) (x : Answer × List ℕ) : Type 0 where
  pub only : (r : Refusal) (o : List ℕ) → x ≡ (Err r, o) → (among (number_of r) ns ≡ true) × (o ≡ out)

module _ {ns out : List ℕ} where
  pub can_refused : (r : Refusal) → among (number_of r) ns ≡ true → Can ns out (Err r, out)
  can_refused r h = record {
    only = λ q o e.
        let same : number_of q ≡ number_of r = sym (ap (λ (x : Answer × List ℕ). refusal_in x.0) e) in
        (ap (λ (n : ℕ). among n ns) same ∙ h, sym (ap (λ (x : Answer × List ℕ). x.1) e));
  }

  pub can_wrote : {k : ℕ} {o : List ℕ} → Can ns out (Ok k, o)
  can_wrote = record { only = λ r p e. absurd (not_both e) }

  pub can_same : {x y : Answer × List ℕ} → x ≡ y → Can ns out y → Can ns out x
  can_same e h = record { only = λ r o f. h.only r o (sym e ∙ f) }

  pub can_le : (m n : ℕ) {x y : Answer × List ℕ} → Can ns out x → Can ns out y → Can ns out (if_le m n x y)
  can_le m n hx hy = le_either (Can ns out) m n hx hy

  pub can_yes : (t : Bool) {x y : Answer × List ℕ} → Can ns out x → Can ns out y → Can ns out (if_yes t x y)
  unfolding if_yes
  can_yes true hx hy = hx
  can_yes false hx hy = hy

  pub can_give : (bytes : List ℕ) → among 5 ns ≡ true → Can ns out (giving bytes out)
  unfolding giving
  can_give bytes five = can_le _ _ can_wrote (can_refused Room five)

-- bytes of a known length: with room for them, and without
module _ (bytes out : List ℕ) (k : ℕ) (size : length bytes ≡ k) where
  pub gives : k ≤ length out → ◌≡◌ {A = Answer × List ℕ} (Ok k, bytes ++ drop k out) (giving bytes out)
  unfolding giving
  gives room = rw (sym size) (le_case (length bytes) (length out) _ _ (rw size room))

  pub gives_none : length out < k → ◌≡◌ {A = Answer × List ℕ} (Err Room, out) (giving bytes out)
  unfolding giving
  gives_none short = gt_case (length bytes) (length out) _ _ (rw size short)

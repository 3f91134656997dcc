-- A fact on the serials has one proof at most, so that a struct's type may say it.
use Rattle.std.specs.Prelude.{ℕ, ◌+◌, List, [], ◌∷◌, take}
use Rattle.std.specs.Coded.{le_prop}
use Rattle.std.proofs.Math.Nat.{ℕ_set}
use Rattle.std.proofs.Common.{refl}
use Rattle.serials.specs.Serials.{Rising, none, more}
use Rattle.listing.specs.Chunks.{Remembers}

rising_prop : (b : ℕ) (l : List ℕ) → IsProp (Rising b l)
rising_prop b [] none none = refl
rising_prop b (x ∷ xs) (more h r) (more k s) = λ i. more (le_prop h k i) (rising_prop (x + 1) xs r s i)

pub remembers_prop : (n : ℕ) (m : List ℕ) → IsProp (Remembers n m)
remembers_prop n m a b =
    λ i. record { room = ℕ_set _ _ a.room b.room i; few = le_prop a.few b.few i; rising = rising_prop 0 (take n m) a.rising b.rising i }

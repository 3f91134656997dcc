-- The cells of a cipher's constants, to which the table in the source computes.
use mathlib.Core.Path.{◌≡◌, refl, ap}
use mathlib.Core.List.{List, [], ◌∷◌, map}
use Prim.Native.Nat.{ℕ, zero, suc, ◌<◌}
use native.Mathlib.Omega.{arith}
use lib.ListN.{length, get_or}
use Rattle.words.specs.Digits.{digits}
use Rattle.cells.specs.Cells.{cut}
use Rattle.cells.specs.declared.Cells.{Cells}

pub at_map : {A : Type 0} (f : ℕ → List A) (xs : List ℕ) (i : ℕ) → i < length xs → get_or (map f xs) i [] ≡ f (get_or xs i 0)
at_map f [] i h = absurd (omega arith)
at_map f (x ∷ xs) zero h = refl
at_map f (x ∷ xs) (suc i) h = at_map f xs i (omega arith)

-- each constant in its row, in cells of m bits
abbrev pub rows : ℕ → List ℕ → List (List ℕ)
rows m constants = map (digits m 16) constants

pub constant_at : (m : ℕ) (constants : List ℕ) (i : ℕ) → i < length constants → ◌≡◌ {A = Cells} record { at = get_or (rows m constants) i [] } (cut m (get_or constants i 0))
unfolding cut
constant_at m constants i h = ap (λ (a : List ℕ). record { at = a }) (at_map (digits m 16) constants i h)

-- The squares of QARMA-128's constants, to which the table in the source computes.
use mathlib.Core.Path.{◌≡◌, refl, ap, ◌∙◌}
use mathlib.Core.List.{List, [], ◌∷◌, map}
use Prim.Native.Nat.{ℕ, ◌<◌}
use lib.ListN.{get_or}
use Rattle.words.specs.Digits.{digits}
use Rattle.words.specs.Lists.{◌!◌, upto}
use Rattle.cells.specs.Cells.{cut}
use Rattle.cells.specs.Workings.{of_rows}
use Rattle.cells128.specs.Qarma128.{qarma128, constants}
use Rattle.cipher.proofs.Constants.{at_map}

-- sixteen cells row by row
abbrev square : List ℕ → List (List ℕ)
square a = (a ! 0 ∷ a ! 1 ∷ a ! 2 ∷ a ! 3 ∷ []) ∷ (a ! 4 ∷ a ! 5 ∷ a ! 6 ∷ a ! 7 ∷ []) ∷ (a ! 8 ∷ a ! 9 ∷ a ! 10 ∷ a ! 11 ∷ []) ∷ (a ! 12 ∷ a ! 13 ∷ a ! 14 ∷ a ! 15 ∷ []) ∷ []

abbrev square_of : ℕ → List (List ℕ)
square_of w = square (digits 8 16 w)

abbrev pub squares : List (List (List ℕ))
squares = map square_of constants

cut_square : (w : ℕ) → of_rows (square_of w) ≡ cut 8 w
unfolding cut of_rows upto
cut_square w = refl

pub constant_is : (i : ℕ) → i < 11 → of_rows (get_or squares i []) ≡ qarma128.constant i
constant_is i h = ap of_rows (at_map square_of constants i h) ∙ cut_square (get_or constants i 0)

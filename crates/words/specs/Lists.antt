-- Lists of numbers.
use Rattle.std.specs.Prelude.{Bool, true, false, List, [], ◌∷◌, ℕ, zero, suc, get_or, eqb}
use Rattle.words.specs.Digits.{◌⊕◌}

-- the element i of a list
infixl 80 ◌!◌
abbrev pub ◌!◌ : List ℕ → ℕ → ℕ
a ! i = get_or a i 0

-- f 0, f 1, .., f (n - 1): as a list, and as a sum
unfoldable pub upto : ℕ → (ℕ → ℕ) → List ℕ
upto zero f = []
upto (suc n) f = f 0 ∷ upto n (λ i. f (suc i))

abbrev pub sum : ℕ → (ℕ → ℕ) → ℕ
sum zero f = 0
sum (suc n) f = sum n f ⊕ f n

-- whether i stands in a list
abbrev pub among : ℕ → List ℕ → Bool
among i [] = false
among i (x ∷ xs) = elim (eqb i x) [ true ↦ true | false ↦ among i xs ]

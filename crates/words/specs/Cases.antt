-- Definitions by cases: on the order of two numbers, and on a yes or no. They are rigid, so that a proof picks its case by a law (`cond` computes away).
use Rattle.std.specs.Prelude.{Bool, true, false, ℕ, leb}

-- the first where m is at most n, else the second
unfoldable pub if_le : {A : Type 0} → ℕ → ℕ → A → A → A
if_le m n a b = elim (leb m n) [ true ↦ a | false ↦ b ]

-- the first at yes, else the second
unfoldable pub if_yes : {A : Type 0} → Bool → A → A → A
if_yes true a b = a
if_yes false a b = b

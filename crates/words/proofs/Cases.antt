-- Cases: which case a definition by cases is, and proofs by cases on the order of two numbers, on their being equal, and on a yes or no.
use mathlib.Core.Bool.{Bool, true, false, false≢true, ◌&&◌}
use mathlib.Core.Path.{◌≡◌, refl}
use Prim.Native.Nat.{ℕ, ◌<◌, ◌≤◌}
use native.Mathlib.Omega.{arith}
use borrow.Author.Tests.{le-leb, lt-leb, ltb-true, eqb-true, eqb-false, ltb-false}
use lib.Dec.{leb, ltb, eqb}
use mathlib.Core.Logic.{◌⊎◌, inl, inr}
use Rattle.words.specs.Cases.{if_le, if_yes}

-- ---- which case it is

pub le_case : {A : Type 0} (m n : ℕ) (a b : A) → m ≤ n → a ≡ if_le m n a b
unfolding if_le
le_case m n a b h = rw (le-leb m n h, if_le)

pub gt_case : {A : Type 0} (m n : ℕ) (a b : A) → n < m → b ≡ if_le m n a b
unfolding if_le
gt_case m n a b h = rw (lt-leb m n h, if_le)

-- what holds of both cases
pub le_either : {A : Type 0} (P : A → Type 0) (m n : ℕ) {a b : A} → P a → P b → P (if_le m n a b)
unfolding if_le
le_either P m n {a} {b} ha hb = go (leb m n)
  where
    go : (t : Bool) → P (elim t [ true ↦ a | false ↦ b ])
    go true = ha
    go false = hb

pub yes_case : {A : Type 0} (t : Bool) (a b : A) → t ≡ true → a ≡ if_yes t a b
unfolding if_yes
yes_case t a b h = rw h

pub no_case : {A : Type 0} (t : Bool) (a b : A) → t ≡ false → b ≡ if_yes t a b
unfolding if_yes
no_case t a b h = rw h

pub both_yes : (t u : Bool) → if_yes t u false ≡ true → (t ≡ true) × (u ≡ true)
unfolding if_yes
both_yes true u h = (refl, h)
both_yes false u h = absurd (false≢true h)

-- ---- proofs by cases

pub by_lt : {C : Type 0} (i n : ℕ) → (i < n → C) → (n ≤ i → C) → C
by_lt {C} i n f g = go (ltb i n) refl
  where
    go : (t : Bool) → ltb i n ≡ t → C
    go true e = f (ltb-true i n e)
    go false e = g (ltb-false i n e)

pub by_eq : {C : Type 0} (i n : ℕ) → (i ≡ n → C) → ((i ≡ n → ⊥) → C) → C
by_eq {C} i n f g = go (eqb i n) refl
  where
    go : (t : Bool) → eqb i n ≡ t → C
    go true e = f (eqb-true i n e)
    go false e = g (eqb-false i n e)

pub clash : (b : Bool) → b ≡ true → b ≡ false → ⊥
clash b p q = let z : ◌≡◌ {A = ℕ} 0 1 = cc in omega arith

pub both : (a b : Bool) → a && b ≡ true → (a ≡ true) × (b ≡ true)
both true b e = (refl, e)
both false b e = (e, cc)

pub all_three : (a b c : Bool) → a && b && c ≡ true → (a ≡ true) × (b ≡ true) × (c ≡ true)
all_three true true c e = (refl, refl, e)
all_three true false c e = (refl, e, cc)
all_three false b c e = (e, cc, cc)

pub not_true_false : (b : Bool) → (b ≡ true → ⊥) → b ≡ false
not_true_false true n = absurd (n refl)
not_true_false false n = refl

pub yes_or_no : (t : Bool) → (t ≡ true) ⊎ (t ≡ false)
yes_or_no true = inl refl
yes_or_no false = inr refl

-- Two words are the same where no bit differs, and two comparisons are one: of the bits that differ in either.
use mathlib.Core.Bool.{false}
use mathlib.Core.Path.{◌≡◌, sym, ap, ◌∙◌}
use Prim.Native.Nat.{ℕ}
use native.Mathlib.Omega.{arith}
use borrow.Author.Tests.{eq-eqb, ne_eqb}
use lib.Bits.{bit_or, or_zero_l, or_add_and, xor_self, xor_add_and, and_le_l, and_le_r}
use lib.Dec.{eqb}
use Rattle.words.specs.Cases.{if_yes}
use Rattle.words.specs.Digits.{◌⊕◌}
use Rattle.words.proofs.Cases.{by_eq, yes_case, no_case}

none_differs : (a b : ℕ) → a ⊕ b ≡ 0 → a ≡ b
none_differs a b e = omega (arith, xor_add_and a b, and_le_l a b, and_le_r a b)

none_in_either : (a b : ℕ) → bit_or a b ≡ 0 → a ≡ 0
none_in_either a b e = omega (arith, or_add_and a b, and_le_r a b)

pub difference : (a b : ℕ) → eqb (a ⊕ b) 0 ≡ eqb a b
difference a b =
    by_eq a b (λ e. eq-eqb (a ⊕ b) 0 (ap (λ (x : ℕ). x ⊕ b) e ∙ xor_self b) ∙ sym (eq-eqb a b e))
    (λ n. ne_eqb (a ⊕ b) 0 (λ z. n (none_differs a b z)) ∙ sym (ne_eqb a b n))

pub both_none : (a b : ℕ) → eqb (bit_or a b) 0 ≡ if_yes (eqb a 0) (eqb b 0) false
both_none a b =
    by_eq a 0 (λ e. ap (λ (x : ℕ). eqb x 0) (ap (λ (x : ℕ). bit_or x b) e ∙ or_zero_l b) ∙ yes_case (eqb a 0) (eqb b 0) false (eq-eqb a 0 e))
    (λ n. ne_eqb (bit_or a b) 0 (λ z. n (none_in_either a b z)) ∙ no_case (eqb a 0) (eqb b 0) false (ne_eqb a 0 n))

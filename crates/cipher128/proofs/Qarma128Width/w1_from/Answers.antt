-- `w1_from` meets its contract: a bit that leaves one half enters the other. 2 ^ 128 is more than `omega` reckons with, so each half is shown by itself.
use borrow.Author.Rules.{rules}
use mathlib.Core.Path.{◌≡◌, sym, ap, ap₂, ◌∙◌}
use Prim.Native.Nat.{ℕ, ◌+◌, ◌*◌, ◌/◌, ◌%◌, ◌^◌, ◌<◌}
use native.Mathlib.Nat.{mul_assoc}
use native.Mathlib.Omega.{arith}
use lib.Bits.{bit_or, or_shifted, xor_block, xor_lt, xor_zero_r}
use lib.Pow.{high, low, shr-shr}
use Rattle.words.specs.Digits.{◌⊕◌}
use Rattle.cipher.specs.Engine.{rotated_right, w1_from}
use Rattle.cells128.specs.Halves.{halves}
use Rattle.cells128.specs.declared.Pair.{Pair}
use Rattle.cipher128.proofs.Qarma128Width.w1_from.Goals as goal

-- the lowest bit of one half above the other bits of another
abbrev over : ℕ → ℕ → ℕ
over l h = l % 2 * 2 ^ 63 + h / 2

over-is : (l h : ℕ) → h < 2 ^ 64 → bit_or (l * 2 ^ 63 % 2 ^ 64) (h / 2) ≡ over l h
over-is l h f =
    let e : l * 2 ^ 63 % 2 ^ 64 ≡ l % 2 * 2 ^ 63 = omega arith in
    rw e (or_shifted (l % 2) 63 (h / 2) (omega arith))

over-lt : (l h : ℕ) → h < 2 ^ 64 → over l h < 2 ^ 64
over-lt l h f = omega arith

join : (x y z : ℕ) → x * 2 ^ 64 + (y * 2 ^ 64 + z) ≡ (x + y) * 2 ^ 64 + z
join x y z = omega arith

pad : (n : ℕ) → n ≡ 0 * 2 ^ 64 + n
pad n = omega arith

-- 128 bits rotated are two halves that hand a bit to each other
rotated-is : (h l : ℕ) → rotated_right 128 (h * 2 ^ 64 + l) ≡ over l h * 2 ^ 64 + over h l
rotated-is h l =
    let bit : (h * 2 ^ 64 + l) % 2 ≡ l % 2 = omega arith in
    let rest : (h * 2 ^ 64 + l) / 2 ≡ h / 2 * 2 ^ 64 + over h l = omega arith in
    ap₂ ◌+◌ (ap (λ (n : ℕ). n * 2 ^ 127) bit ∙ sym (mul_assoc (l % 2) (2 ^ 63) (2 ^ 64))) rest ∙ join (l % 2 * 2 ^ 63) (h / 2) (over h l)

module _ (h l : ℕ) (f : h < 2 ^ 64) (g : l < 2 ^ 64) where
  top_lt : h / 2 ^ 63 < 2 ^ 64
  top_lt = omega arith

  low-lt : over h l ⊕ h / 2 ^ 63 < 2 ^ 64
  low-lt = xor_lt 64 (over h l) (h / 2 ^ 63) (over-lt h l g) top_lt

  w1-is : w1_from 128 (h * 2 ^ 64 + l) ≡ over l h * 2 ^ 64 + (over h l ⊕ h / 2 ^ 63)
  w1-is =
      ap₂ ◌⊕◌ (rotated-is h l) (sym (shr-shr (h * 2 ^ 64 + l) 64 63) ∙ ap (λ (n : ℕ). n / 2 ^ 63) (high h 64 g) ∙ pad (h / 2 ^ 63))
      ∙ xor_block 64 (over l h) 0 (over h l) (h / 2 ^ 63) (over-lt h l g) top_lt
      ∙ ap (λ (n : ℕ). n * 2 ^ 64 + (over h l ⊕ h / 2 ^ 63)) (xor_zero_r (over l h))

  halves_are : ◌≡◌ {A = Pair} record { high = bit_or (l * 2 ^ 63 % 2 ^ 64) (h / 2); low = bit_or (h * 2 ^ 63 % 2 ^ 64) (l / 2) ⊕ h / 2 ^ 63 } (halves (w1_from 128 (h * 2 ^ 64 + l)))
  unfolding halves
  halves_are =
      let e = over-is l h f ∙ sym (high (over l h) 64 low-lt) ∙ ap (λ (n : ℕ). n / 2 ^ 64) (sym w1-is) in
      let d = ap (λ (n : ℕ). n ⊕ h / 2 ^ 63) (over-is h l g) ∙ sym (low (over l h) 64 low-lt) ∙ ap (λ (n : ℕ). n % 2 ^ 64) (sym w1-is) in
      λ i. record { high = e i; low = d i }

pub returns : goal.returns
returns c = let w = c.args.w0 in halves_are w.high w.low (search rules) (search rules)

-- A digit of 4 bits of a word: what a box as a word has there, and how it comes from the half of 32 bits that it stands in.
use mathlib.Core.Path.{◌≡◌, sym, ap, ◌∙◌}
use Prim.Native.Nat.{ℕ, ◌+◌, ◌-◌, ◌*◌, ◌/◌, ◌%◌, ◌^◌, ◌<◌, ◌≤◌}
use native.Mathlib.Nat.{mod-eq_of_lt, mod-lt}
use native.Mathlib.Omega.{arith}
use lib.Bits.{bit_and, and_zero_r, and_mask, xor_zero_l, xor_zero_r, xor_self, xor_lt}
use lib.Dec.{lit<}
use lib.Pow.{field, mod-mod-pow, shr-shr}
use Rattle.words.specs.Digits.{◌⊕◌}
use Rattle.words.specs.Lists.{◌!◌}
use Rattle.words.proofs.Cases.{by_lt}
use Rattle.cells64.specs.Workings.{nibbles}
use Rattle.cells.proofs.Upto.{upto_at}
use Rattle.cells.proofs.Xor.{assoc}

pub digit_at : (w x : ℕ) → x < 16 → w / 2 ^ (4 * x) % 16 ≡ nibbles w ! x
unfolding nibbles
digit_at w x h = sym (upto_at 16 (λ v. w / 2 ^ (4 * v) % 16) x h)

-- the low half has the low digits
low_digit : (w k : ℕ) → k ≤ 28 → w % 2 ^ 32 / 2 ^ k % 16 ≡ w / 2 ^ k % 16
low_digit w k h =
    let e : 28 - k + 4 + k ≡ 32 = omega arith in
    ap (λ (n : ℕ). w % 2 ^ n / 2 ^ k % 16) (sym e) ∙ ap (λ (n : ℕ). n % 16) (field w (28 - k + 4) k) ∙ mod-mod-pow (w / 2 ^ k) (28 - k) 4

-- a mask of 0 leaves the first of two digits, a mask of 15 gives the second
first_chosen : (l h : ℕ) → l ⊕ bit_and (l ⊕ h) 0 ≡ l
first_chosen l h = ap (λ (n : ℕ). l ⊕ n) (and_zero_r (l ⊕ h)) ∙ xor_zero_r l

second_chosen : (l h : ℕ) → l < 2 ^ 4 → h < 2 ^ 4 → l ⊕ bit_and (l ⊕ h) 15 ≡ h
second_chosen l h p q =
    ap (λ (n : ℕ). l ⊕ n) (and_mask (l ⊕ h) 4 ∙ mod-eq_of_lt (xor_lt 4 l h p q))
    ∙ sym (assoc l l h)
    ∙ ap (λ (n : ℕ). n ⊕ h) (xor_self l)
    ∙ xor_zero_l h

-- digit x, counted from the least significant: of a word, and as two shifts by less than 32 and a choice
abbrev digit_chosen : ℕ → ℕ → ℕ
digit_chosen w x =
    w % 2 ^ 32 / 2 ^ (4 * (x % 8)) % 16 ⊕ bit_and (w % 2 ^ 32 / 2 ^ (4 * (x % 8)) % 16 ⊕ w / 2 ^ 32 % 2 ^ 32 / 2 ^ (4 * (x % 8)) % 16) (15 * (x / 8))

pub digit_chosen_lem : (w x : ℕ) → x < 16 → digit_chosen w x ≡ w / 2 ^ (4 * x) % 16
digit_chosen_lem w x h =
    by_lt x 8
    (λ l.
    let k : x % 8 ≡ x = omega arith in
    let z : x / 8 ≡ 0 = omega arith in
    rw (k, z) (first_chosen (w % 2 ^ 32 / 2 ^ (4 * x) % 16) (w / 2 ^ 32 % 2 ^ 32 / 2 ^ (4 * x) % 16) ∙ low_digit w (4 * x) (omega arith)))
    (λ g.
    let j = 4 * (x - 8) in
    let k : x % 8 ≡ x - 8 = omega arith in
    let o : x / 8 ≡ 1 = omega arith in
    let e : 32 + j ≡ 4 * x = omega arith in
    rw (k, o)
    (second_chosen (w % 2 ^ 32 / 2 ^ j % 16) (w / 2 ^ 32 % 2 ^ 32 / 2 ^ j % 16) (mod-lt (w % 2 ^ 32 / 2 ^ j) (lit< tt)) (mod-lt (w / 2 ^ 32 % 2 ^ 32 / 2 ^ j) (lit< tt))
    ∙ low_digit (w / 2 ^ 32) j (omega arith)
    ∙ ap (λ (n : ℕ). n % 16) (shr-shr w 32 j)
    ∙ ap (λ (n : ℕ). w / 2 ^ n % 16) e))

pub digit_below : (w x : ℕ) → x < 16 → digit_chosen w x < 16
digit_below w x h = rw (digit_chosen_lem w x h) (mod-lt (w / 2 ^ (4 * x)) (lit< tt))

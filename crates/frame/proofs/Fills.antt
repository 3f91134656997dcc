-- What the fill is: made by sealing, looked for by opening, and taken off again.
use mathlib.Core.Bool.{true}
use mathlib.Core.Path.{◌≡◌, refl, sym, ap, ap₂, subst, ◌∙◌}
use mathlib.Core.List.{List, ◌∷◌}
use Prim.Native.Nat.{ℕ, ◌+◌, ◌-◌, ◌*◌, ◌/◌, ◌%◌, ◌^◌, ◌<◌, ◌≤◌}
use native.Mathlib.Nat.{add-mul, mul_assoc}
use native.Mathlib.Omega.{arith}
use borrow.Author.Tests.{eq-eqb, eqb-true}
use lib.Dec.{eqb}
use lib.ListN.{length, take, drop, replicate}
use lib.Pow.{pow-add, pow-lt, shr_lt, split, low}
use lib.Seq.{take_at, drop_at, length-take-le}
use Rattle.words.specs.Cases.{if_le}
use Rattle.words.specs.Digits.{word, digits, Digits}
use Rattle.words.proofs.Laws.{word_append, word_low, word_digits, digits_add, digits_word, length_digits}
use Rattle.words.proofs.Cases.{le_case, gt_case}
use Rattle.frame.specs.Blocks.{fill_of, filled}
use Rattle.frame.specs.Frames.{fill_right}
use Rattle.frame.proofs.Laws.{filled_bytes, filled_eight, short_fill, short_filled, word_zeros, first_bytes}

-- ---- made

marked : (x j : ℕ) → (x * 256 + 128) * 2 ^ j ≡ x * 2 ^ (8 + j) + 2 ^ (7 + j)
marked x j = rw (pow-add 2 8 j, pow-add 2 7 j, add-mul, mul_assoc)

-- a short part filled: its bytes, a one bit, zeros
fill_value : (p : List ℕ) → length p < 8 → word 8 (filled p) ≡ word 8 p * 2 ^ (64 - length p * 8) + 2 ^ (63 - length p * 8)
fill_value p h =
    let j = 8 * (7 - length p) in
    let e : 8 + j ≡ 64 - length p * 8 = omega arith in
    let d : 7 + j ≡ 63 - length p * 8 = omega arith in
    ap (word 8) (sym (short_filled p h))
    ∙ word_append 8 0 p (128 ∷ replicate (7 - length p) 0)
    ∙ word_zeros 8 (word 8 p * 256 + 128) (7 - length p)
    ∙ marked (word 8 p) j
    ∙ ap₂ (λ (a b : ℕ). word 8 p * 2 ^ a + 2 ^ b) e d

pub fill_none : (n w : ℕ) → n % 8 ≡ 0 → fill_right n w ≡ true
unfolding fill_right
fill_none n w e = sym (le_case (n % 8) 0 _ _ (omega arith))

-- the bytes past the length, as the low bits of the block: a one and zeros
past : (r w : ℕ) → r ≤ 8 → word 8 (drop r (digits 8 8 w)) ≡ w % 2 ^ (64 - r * 8)
past r w h =
    let e : r + (8 - r) ≡ 8 = omega arith in
    let d : 8 * (8 - r) ≡ 64 - r * 8 = omega arith in
    ap (λ (k : ℕ). word 8 (drop r (digits 8 k w))) (sym e)
    ∙ ap (λ (l : List ℕ). word 8 (drop r l)) (digits_add 8 r (8 - r) w)
    ∙ ap (word 8) (drop_at (digits 8 r (w / 2 ^ (8 * (8 - r)))) (digits 8 (8 - r) w) r (length_digits 8 r _))
    ∙ word_low 8 (8 - r) w
    ∙ ap (λ (k : ℕ). w % 2 ^ k) d

mark : (r : ℕ) → r < 8 → word 8 (fill_of r) ≡ 2 ^ (63 - r * 8)
mark r h =
    let d : 7 + 8 * (7 - r) ≡ 63 - r * 8 = omega arith in
    ap (word 8) (sym (short_fill r h)) ∙ word_zeros 8 0x80 (7 - r) ∙ sym (pow-add 2 7 (8 * (7 - r))) ∙ ap (λ (k : ℕ). 2 ^ k) d

pub fill_bits : (n w : ℕ) → fill_right n w ≡ if_le (n % 8) 0 true (eqb (w % 2 ^ (64 - n % 8 * 8)) (2 ^ (63 - n % 8 * 8)))
unfolding fill_right
fill_bits n w = ap₂ (λ (x y : ℕ). if_le (n % 8) 0 true (eqb x y)) (past (n % 8) w (omega arith)) (mark (n % 8) (omega arith))

pub fill_made : (n : ℕ) (p : List ℕ) → 1 ≤ n % 8 → length p ≡ n % 8 → fill_right n (word 8 (filled p)) ≡ true
fill_made n p h e =
    let r = length p in
    let found : word 8 (filled p) % 2 ^ (64 - r * 8) ≡ 2 ^ (63 - r * 8) =
    ap (λ (w : ℕ). w % 2 ^ (64 - r * 8)) (fill_value p (omega arith)) ∙ low (word 8 p) (64 - r * 8) (pow-lt (omega arith)) in
    fill_bits n (word 8 (filled p))
    ∙ sym (gt_case (n % 8) 0 _ _ h)
    ∙ eq-eqb (word 8 (filled p) % 2 ^ (64 - n % 8 * 8)) (2 ^ (63 - n % 8 * 8)) (subst (λ (x : ℕ). word 8 (filled p) % 2 ^ (64 - x * 8) ≡ 2 ^ (63 - x * 8)) e found)

-- ---- looked for

pub fill_found : (n w : ℕ) → 1 ≤ n % 8 → fill_right n w ≡ true → w % 2 ^ (64 - n % 8 * 8) ≡ 2 ^ (63 - n % 8 * 8)
fill_found n w h e = eqb-true (w % 2 ^ (64 - n % 8 * 8)) (2 ^ (63 - n % 8 * 8)) (gt_case (n % 8) 0 _ _ h ∙ sym (fill_bits n w) ∙ e)

-- the first bytes of a word with that fill, filled again
pub fill_again : (r w : ℕ) → r < 8 → w < 2 ^ 64 → w % 2 ^ (64 - r * 8) ≡ 2 ^ (63 - r * 8) → word 8 (filled (take r (digits 8 8 w))) ≡ w
fill_again r w h l e =
    let p : List ℕ = take r (digits 8 8 w) in
    let size : length p ≡ r = length-take-le r (digits 8 8 w) (omega arith) in
    let j : 8 * r + (64 - r * 8) ≡ 64 = omega arith in
    let top : word 8 p ≡ w / 2 ^ (64 - r * 8) =
    ap (word 8) (sym (first_bytes r w (omega arith)))
    ∙ word_digits 8 r (w / 2 ^ (64 - r * 8)) (shr_lt (8 * r) (64 - r * 8) (subst (λ (x : ℕ). w < 2 ^ x) (sym j) l)) in
    fill_value p (omega (arith, size))
    ∙ ap (λ (x : ℕ). word 8 p * 2 ^ (64 - x * 8) + 2 ^ (63 - x * 8)) size
    ∙ ap₂ (λ (x y : ℕ). x * 2 ^ (64 - r * 8) + y) top (sym e)
    ∙ split w (64 - r * 8)

-- ---- taken off

take_filled : (p : List ℕ) → take (length p) (filled p) ≡ p
unfolding filled
take_filled p = take_at p (fill_of (length p)) (length p) refl

pub fill_off : {p : List ℕ} → Digits 8 p → length p ≤ 8 → take (length p) (digits 8 8 (word 8 (filled p))) ≡ p
fill_off {p} h l =
    ap (take (length p)) (ap (λ (k : ℕ). digits 8 k (word 8 (filled p))) (sym (filled_eight p l)) ∙ digits_word (filled_bytes h)) ∙ take_filled p

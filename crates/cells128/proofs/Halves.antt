-- Cells of 8 bits, and the halves of a word of 128 bits.
use mathlib.Core.Path.{◌≡◌, sym, ap, ap₂, ◌∙◌}
use mathlib.Core.List.{List, ◌++◌, append-nil}
use Prim.Native.Nat.{ℕ, ◌+◌, ◌*◌, ◌/◌, ◌%◌, ◌^◌, ◌<◌}
use native.Mathlib.Omega.{arith}
use borrow.Rule.Slice.PartMut.{put_mid}
use lib.Arith.{digits_lt}
use lib.ListN.{length, take, drop, length-take, drop_of_length-le}
use lib.Pow.{shr_lt, high, low}
use lib.Seq.{take_at, drop_at, take_all}
use Rattle.words.specs.Digits.{word, digits}
use Rattle.words.proofs.Laws.{digits_add, digits_low, length_digits, word_digits, word_low, word_fits, digits_take, digits_drop}
use Rattle.cells.specs.Cells.{Below, cut, joined}
use Rattle.cells.specs.declared.Cells.{Cells}
use Rattle.cells.proofs.Words.{below_digits, cut_joined, joined_lt}
use Rattle.cells128.specs.Halves.{whole, halves}
use Rattle.cells128.specs.declared.Pair.{Pair}

-- a half that is written over the second eight of sixteen bytes
over : (xs ys zs : List ℕ) → length xs ≡ 8 → length zs ≡ 8 → put_mid 8 8 (xs ++ zs) ys ≡ xs ++ ys
over xs ys zs h k = rw (take_at xs zs 8 h, drop_at xs zs 8 h, drop_of_length-le zs {i = 8} (omega arith), append-nil)

pub of_halves : (h l : ℕ) (xs ys zs : List ℕ) → l < 2 ^ 64 → length zs ≡ 8 → xs ≡ digits 8 8 h → ys ≡ digits 8 (length (take 8 (drop 8 (xs ++ zs)))) l
    → ◌≡◌ {A = Cells} record { at = put_mid 8 8 (xs ++ zs) ys } (cut 8 (h * 2 ^ 64 + l))
unfolding cut
of_halves h l xs ys zs f k p q =
    let size : length xs ≡ 8 = ap length p ∙ length_digits 8 8 h in
    let rest : take 8 (drop 8 (xs ++ zs)) ≡ zs = ap (take 8) (drop_at xs zs 8 size) ∙ take_all 8 zs (omega arith) in
    let low_half : ys ≡ digits 8 8 (h * 2 ^ 64 + l) =
    q ∙ ap (λ (n : ℕ). digits 8 n l) (ap length rest ∙ k) ∙ ap (digits 8 8) (sym (low h 64 f)) ∙ digits_low 8 8 (h * 2 ^ 64 + l) in
    let high_half : xs ≡ digits 8 8 ((h * 2 ^ 64 + l) / 2 ^ 64) = p ∙ ap (digits 8 8) (sym (high h 64 f)) in
    ap (λ (b : List ℕ). record { at = b }) (over xs ys zs size k ∙ ap₂ ◌++◌ high_half low_half ∙ sym (digits_add 8 8 8 (h * 2 ^ 64 + l)))

module _ {a : Cells} (b : Below 8 a) where
  abbrev w : ℕ
  w = joined 8 a

  parts : a.at ≡ digits 8 8 (w / 2 ^ 64) ++ digits 8 8 w
  unfolding cut
  parts = sym (ap (λ (c : Cells). c.at) (cut_joined 8 b)) ∙ digits_add 8 8 8 w

  pub joined_halves : {x y : ℕ} → x ≡ word 8 (take 8 a.at) → y ≡ word 8 (take 8 (drop 8 a.at)) → ◌≡◌ {A = Pair} record { high = x; low = y } (halves w)
  unfolding halves
  joined_halves {x} {y} p q =
      let size = length_digits 8 8 (w / 2 ^ 64) in
      let first : take 8 a.at ≡ digits 8 8 (w / 2 ^ 64) = ap (take 8) parts ∙ take_at (digits 8 8 (w / 2 ^ 64)) (digits 8 8 w) 8 size in
      let second : take 8 (drop 8 a.at) ≡ digits 8 8 w =
      ap (λ (l : List ℕ). take 8 (drop 8 l)) parts ∙ ap (take 8) (drop_at (digits 8 8 (w / 2 ^ 64)) (digits 8 8 w) 8 size) ∙ take_all 8 (digits 8 8 w) (omega (arith, length_digits 8 8 w)) in
      let e : x ≡ w / 2 ^ 64 = p ∙ ap (word 8) first ∙ word_digits 8 8 (w / 2 ^ 64) (shr_lt 64 64 (joined_lt b)) in
      let f : y ≡ w % 2 ^ 64 = q ∙ ap (word 8) second ∙ word_low 8 8 w in
      λ i. record { high = e i; low = f i }

  -- each half of the cells makes a number of 64 bits
  pub first_fits : word 8 (take 8 a.at) < 2 ^ 64
  first_fits = word_fits (digits_take 8 (below_digits b)) (simp length-take (omega arith))

  pub second_fits : word 8 (take 8 (drop 8 a.at)) < 2 ^ 64
  second_fits = word_fits (digits_take 8 (digits_drop 8 (below_digits b))) (simp length-take (omega arith))

-- ---- a number and its halves

pub whole_halves : (n : ℕ) → whole (halves n) ≡ n
unfolding halves
whole_halves n = omega arith

pub halves_whole : (p : Pair) → p.low < 2 ^ 64 → halves (whole p) ≡ p
unfolding halves
halves_whole p h = λ i. record { high = high p.high 64 h i; low = low p.high 64 h i }

pub whole_lt : (p : Pair) → p.high < 2 ^ 64 → p.low < 2 ^ 64 → whole p < 2 ^ 128
whole_lt p h l = digits_lt h l

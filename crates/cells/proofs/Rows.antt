-- Mix and tweak step as the code has them, over the cell width: column by column, and row by row. Each definition computes to these.
use mathlib.Core.Path.{◌≡◌, refl, sym, ap, ◌∙◌}
use mathlib.Core.List.{List, [], ◌∷◌}
use Prim.Native.Nat.{ℕ, zero, suc, ◌+◌, ◌*◌, ◌/◌, ◌%◌, ◌^◌, ◌-◌, ◌<◌}
use native.Mathlib.Omega.{arith}
use lib.Bits.{bit_and, and_mask}
use lib.Dec.{eqb, eqb→eq}
use lib.Pow.{mod-mod-pow}
use Rattle.words.specs.Digits.{◌⊕◌}
use Rattle.words.specs.Lists.{upto}
use Rattle.cells.specs.Cells.{Cipher, cell, rotated, mixed_column, mixed_by, picked, on_seven, stepped, unstepped}
use Rattle.cells.specs.Workings.{of_rows, transposed, moved_row}
use Rattle.cells.specs.declared.Cells.{Cells}
use Rattle.cells.specs.declared.Way.{Way}
use Rattle.cells.specs.declared.Way.TheVariants.{Kept, Stepped, Back}
use Rattle.cells.proofs.Laws.{four}
use Rattle.cells.proofs.Upto.{each}

-- four cells of a, by their numbers
abbrev pub taken : Cells → ℕ → ℕ → ℕ → ℕ → List ℕ
taken a i j k l = cell a i ∷ cell a j ∷ cell a k ∷ cell a l ∷ []

module _ (m : ℕ) (t : List (List ℕ)) (a : Cells) where
  abbrev column : List ℕ → List ℕ
  column x = mixed_column m t x

  pub mixed_columns : {p q r s w x y z : List ℕ} → p ≡ column w → w ≡ taken a 0 4 8 12 → q ≡ column x → x ≡ taken a 1 5 9 13
      → r ≡ column y → y ≡ taken a 2 6 10 14 → s ≡ column z → z ≡ taken a 3 7 11 15
      → transposed (of_rows (p ∷ q ∷ r ∷ s ∷ [])) ≡ mixed_by m t a
  unfolding of_rows transposed mixed_by upto
  mixed_columns e e' f f' g g' h h' =
      ap (λ (l : List (List ℕ)). transposed (of_rows l)) (four (e ∙ ap column e') (f ∙ ap column f') (g ∙ ap column g') (h ∙ ap column h'))

module _ (c : Cipher) (a : Cells) where
  abbrev row : List Way → List ℕ → List ℕ
  row how x = moved_row c.bits c.tap how x

  pub stepped_rows : {p q r s w x y z : List ℕ}
      → p ≡ row (Stepped ∷ Stepped ∷ Kept ∷ Stepped ∷ []) w → w ≡ taken a 6 5 14 15 → q ≡ row (Stepped ∷ Kept ∷ Kept ∷ Kept ∷ []) x → x ≡ taken a 0 1 2 3
      → r ≡ row (Stepped ∷ Kept ∷ Kept ∷ Stepped ∷ []) y → y ≡ taken a 7 12 13 4 → s ≡ row (Kept ∷ Stepped ∷ Kept ∷ Kept ∷ []) z → z ≡ taken a 8 9 10 11
      → of_rows (p ∷ q ∷ r ∷ s ∷ []) ≡ stepped c a
  unfolding of_rows picked on_seven upto
  stepped_rows e e' f f' g g' h h' =
      ap of_rows (four (e ∙ ap (row (Stepped ∷ Stepped ∷ Kept ∷ Stepped ∷ [])) e') (f ∙ ap (row (Stepped ∷ Kept ∷ Kept ∷ Kept ∷ [])) f') (g ∙ ap (row (Stepped ∷ Kept ∷ Kept ∷ Stepped ∷ [])) g') (h ∙ ap (row (Kept ∷ Stepped ∷ Kept ∷ Kept ∷ [])) h'))

  pub unstepped_rows : {p q r s w x y z : List ℕ}
      → p ≡ row (Back ∷ Kept ∷ Kept ∷ Kept ∷ []) w → w ≡ taken a 4 5 6 7 → q ≡ row (Back ∷ Back ∷ Back ∷ Back ∷ []) x → x ≡ taken a 11 1 0 8
      → r ≡ row (Kept ∷ Back ∷ Kept ∷ Kept ∷ []) y → y ≡ taken a 12 13 14 15 → s ≡ row (Kept ∷ Kept ∷ Kept ∷ Back ∷ []) z → z ≡ taken a 9 10 2 3
      → of_rows (p ∷ q ∷ r ∷ s ∷ []) ≡ unstepped c a
  unfolding of_rows picked on_seven upto
  unstepped_rows e e' f f' g g' h h' =
      ap of_rows (four (e ∙ ap (row (Back ∷ Kept ∷ Kept ∷ Kept ∷ [])) e') (f ∙ ap (row (Back ∷ Back ∷ Back ∷ Back ∷ [])) f') (g ∙ ap (row (Kept ∷ Back ∷ Kept ∷ Kept ∷ [])) g') (h ∙ ap (row (Kept ∷ Kept ∷ Kept ∷ Back ∷ [])) h'))

-- ---- one cell

-- an entry that is not '-' rotates
pub rotates : (m k x : ℕ) → (k ≡ 0 → ⊥) → (x * 2 ^ k % 2 ^ m) ⊕ (x / 2 ^ (m - k)) ≡ rotated m k x
rotates m zero x h = absurd (h refl)
rotates m (suc k) x h = refl

-- 255 moved right is the mask of the m low bits of a byte
low_mask : (m : ℕ) → m < 9 → 255 / 2 ^ (8 - m) ≡ 2 ^ m - 1
low_mask m h = eqb→eq (255 / 2 ^ (8 - m)) (2 ^ m - 1) (each 9 (λ k. eqb (255 / 2 ^ (8 - k)) (2 ^ k - 1)) tt m h)

pub low_bits : (m n : ℕ) → m < 9 → bit_and (n % 256) (255 / 2 ^ (8 - m)) ≡ n % 2 ^ m
low_bits m n h =
    let e : 8 - m + m ≡ 8 = omega arith in
    ap (λ (v : ℕ). bit_and (n % 256) v) (low_mask m h) ∙ and_mask (n % 256) m ∙ ap (λ (k : ℕ). n % 2 ^ k % 2 ^ m) (sym e) ∙ mod-mod-pow n (8 - m) m

-- What contracts of private functions say: the boxes as gates on pairs of bits, one of each half of a cell, and the tweak step by masks. Not from the paper.
use Rattle.std.specs.Prelude.{Bool, true, false, ◌&&◌, ◌||◌, List, [], ◌∷◌, ℕ, ◌*◌, ◌/◌, ◌%◌, ◌<◌, T, eqb}
use Rattle.std.specs.Int.Bits.{bit_and, bit_or}
use Rattle.words.specs.Digits.{◌⊕◌}
use Rattle.words.specs.Lists.{◌!◌}
use Rattle.cells.specs.Cells.{cell, sixteen}
use Rattle.cells.specs.Workings.{bit_moved}
use Rattle.cells.specs.declared.Cells.{Cells}
use Rattle.cells.specs.declared.Way.{Way}
use Rattle.cells.specs.declared.Way.TheVariants.{Kept, Stepped, Back}

-- bits 1 and 4 have changed places, and bits 3 and 6
abbrev pub rewired : ℕ → ℕ
rewired x = bit_or (bit_or (bit_and x 165) (bit_and x 10 * 8 % 256)) (bit_and (x / 8) 10)

-- the lowest pairs of bits of four numbers beside each other
abbrev pub joined_pairs : ℕ → ℕ → ℕ → ℕ → ℕ
joined_pairs a b c d = bit_or (bit_or (bit_or (bit_and a 3) (bit_and b 3 * 4 % 256)) (bit_and c 3 * 16 % 256)) (d * 64 % 256)

-- the output bits from the input bits, the lowest first: of box 0
abbrev pub gates0 : ℕ → ℕ → ℕ → ℕ → List ℕ
gates0 a b c d =
    let e = a ⊕ d in
    let f = bit_and a (d ⊕ 255) in
    let g = bit_and b d in
    let h = a ⊕ b in
    let i = bit_and c (g ⊕ 255) in
    let j = bit_and h (e ⊕ 255) in
    let k = bit_or f i in
    let l = d ⊕ j in
    let m = bit_and i (j ⊕ 255) in
    let n = h ⊕ l in
    let o = bit_and l (c ⊕ 255) in
    let p = bit_or g m in
    let q = bit_or f o in
    p ∷ q ∷ n ∷ k ∷ []

-- box 1, with output bits 1 and 3 complemented
abbrev pub gates1 : ℕ → ℕ → ℕ → ℕ → List ℕ
gates1 a b c d =
    let e = b ⊕ c in
    let f = bit_or c d in
    let g = a ⊕ d in
    let h = a ⊕ f in
    let i = b ⊕ f in
    let j = bit_and e h in
    let k = bit_or g i in
    let l = c ⊕ j in
    let m = d ⊕ k in
    let n = bit_or j m in
    let o = bit_and l k in
    let p = i ⊕ n in
    let q = h ⊕ o in
    q ∷ p ∷ m ∷ l ∷ []

-- box 2, with output bits 0, 1 and 3 complemented
abbrev pub gates2 : ℕ → ℕ → ℕ → ℕ → List ℕ
gates2 a b c d =
    let e = a ⊕ b in
    let f = bit_and b (d ⊕ 255) in
    let g = bit_and d (c ⊕ 255) in
    let h = bit_and b (a ⊕ 255) in
    let i = bit_or e g in
    let j = c ⊕ h in
    let k = bit_and i (f ⊕ 255) in
    let l = bit_and j (f ⊕ 255) in
    let m = d ⊕ i in
    let n = a ⊕ l in
    let o = b ⊕ k in
    let p = bit_or d n in
    let q = bit_and n m in
    let r = o ⊕ p in
    let s = j ⊕ q in
    s ∷ r ∷ n ∷ k ∷ []

-- the inverse of box 2, with output bits 0 and 2 complemented
abbrev pub ungates2 : ℕ → ℕ → ℕ → ℕ → List ℕ
ungates2 a b c d =
    let e = a ⊕ c in
    let f = bit_and a (c ⊕ 255) in
    let g = b ⊕ d in
    let h = bit_or d e in
    let i = bit_and c g in
    let j = a ⊕ g in
    let k = bit_and h (b ⊕ 255) in
    let l = bit_or a i in
    let m = bit_or d i in
    let n = bit_or e j in
    let o = bit_or f k in
    let p = k ⊕ l in
    let q = m ⊕ n in
    let r = bit_or c q in
    let s = g ⊕ r in
    o ∷ s ∷ p ∷ q ∷ []

-- two masks say what is done to a cell: it is kept, its bits are stepped, or they are stepped back
abbrev pub masked : ℕ → ℕ → Bool
masked s u = (eqb s 0 || eqb s 255) && (eqb u 0 || eqb u 255) && eqb (s * u) 0

abbrev pub Masks : ℕ → ℕ → Type 0
Masks s u = T (masked s u)

pub record AllMasks (s u : List ℕ) : Type 0 where
  pub all : (i : ℕ) → i < 16 → Masks (s ! i) (u ! i)

-- and which of them
abbrev pub way : ℕ → ℕ → Way
way s u = elim (eqb s 255) [ true ↦ Stepped | false ↦ elim (eqb u 255) [ true ↦ Back | false ↦ Kept ] ]

unfoldable pub moved_cells : List ℕ → List ℕ → Cells → Cells
moved_cells s u a = sixteen (λ i. bit_moved 8 2 (way (s ! i) (u ! i)) (cell a i))

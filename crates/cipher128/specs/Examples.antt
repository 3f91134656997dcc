-- Examples of QARMA-128, worked out by hand from document 000, as one table. A row has what the definitions give, and what was worked out.
use Rattle.std.specs.Prelude.{List, [], ◌∷◌, ℕ}
use Rattle.words.specs.Lists.{◌!◌}
use Rattle.cells.specs.Cells.{cut, joined, shuffled, mixed_column, bit_stepped, stepped}
use Rattle.cells128.specs.Qarma128.{qarma128, entries}
use Rattle.cipher.specs.Engine.{w1_from}
use Rattle.cipher.specs.Numbers.{Numbers, turned_numbers}
use Rattle.cells128.specs.declared.Pair.{Pair}
use Rattle.cipher128.specs.Words.{key_words, turned_words}
use Rattle.cipher.specs.declared.Words.{Words}

-- the tweak step on a word
abbrev stepped_word : ℕ → List ℕ
stepped_word t = joined 8 (stepped qarma128 (cut 8 t)) ∷ []

-- four words turned
abbrev four_numbers : Numbers → List ℕ
four_numbers n = n.w0 ∷ n.w1 ∷ n.k0 ∷ n.k1 ∷ []

abbrev turned_four : ℕ → ℕ → ℕ → ℕ → List ℕ
turned_four a b c d = four_numbers (turned_numbers qarma128 record { w0 = a; w1 = b; k0 = c; k1 = d })

-- words by two numbers each
abbrev pair : ℕ → ℕ → Pair
pair h l = record { high = h; low = l }

abbrev eight_numbers : Words Pair → List ℕ
eight_numbers s = s.w0.high ∷ s.w0.low ∷ s.w1.high ∷ s.w1.low ∷ s.k0.high ∷ s.k0.low ∷ s.k1.high ∷ s.k1.low ∷ []

unfoldable pub table : List (List ℕ × List ℕ)
table =
    -- w1 from w0: of 1, of the top bit, of all ones
    (w1_from 128 1 ∷ [], 0x80000000000000000000000000000000 ∷ [])
    ∷ (w1_from 128 0x80000000000000000000000000000000 ∷ [], 0x40000000000000000000000000000001 ∷ [])
    ∷ (w1_from 128 0xFFFFFFFFFFFFFFFFFFFFFFFFFFFFFFFF ∷ [], 0xFFFFFFFFFFFFFFFFFFFFFFFFFFFFFFFE ∷ [])
    -- shuffle: cell i holds i before it
    ∷ (joined 8 (shuffled (cut 8 0x000102030405060708090A0B0C0D0E0F)) ∷ [], 0x000B060D0A010C07050E03080F040902 ∷ [])
    -- mix of a column, and back: the first column of the entries is -, 5, 4, 1
    ∷ (mixed_column 8 entries (1 ∷ 0 ∷ 0 ∷ 0 ∷ []), 0 ∷ 32 ∷ 16 ∷ 2 ∷ [])
    ∷ (mixed_column 8 entries (0 ∷ 32 ∷ 16 ∷ 2 ∷ []), 1 ∷ 0 ∷ 0 ∷ 0 ∷ [])
    -- the bit step on one cell: b0 + b2 becomes bit 7
    ∷ (bit_stepped 8 2 1 ∷ bit_stepped 8 2 2 ∷ bit_stepped 8 2 4 ∷ bit_stepped 8 2 5 ∷ [], 0x80 ∷ 1 ∷ 0x82 ∷ 2 ∷ [])
    -- tweak step: cell 2 goes to cell 6 as it is, cell 6 to cell 0, which is one of the seven
    ∷ (stepped_word 0x00000100000000000000000000000000, 0x00000000000001000000000000000000 ∷ [])
    ∷ (stepped_word 0x00000000000001000000000000000000, 0x80000000000000000000000000000000 ∷ [])
    -- box 0 at 0x10. The high half is 1, and box 0 has 14 = (1, 1, 1, 0) there: bits 7, 5 and 3. The low half is 0, and box 0 has 0 there. 0x80 + 0x20 + 0x08
    ∷ (qarma128.box 0 ! 0x10 ∷ [], 0xA8 ∷ [])
    -- box 1 at 0x53. At 5 it has 7 = (0, 1, 1, 1): bits 5, 3 and 1. At 3 it has 6 = (0, 1, 1, 0): bits 4 and 2. 0x20 + 0x08 + 0x02 + 0x10 + 0x04
    ∷ (qarma128.box 1 ! 0x53 ∷ [], 0x3E ∷ [])
    -- box 2 at 0xC8. At 12 it has 13 = (1, 1, 0, 1): bits 7, 5 and 1. At 8 it has 3 = (0, 0, 1, 1): bits 2 and 0. 0x80 + 0x20 + 0x02 + 0x04 + 0x01
    ∷ (qarma128.box 2 ! 0xC8 ∷ [], 0xA7 ∷ [])
    -- the inverse boxes at these
    ∷ (qarma128.unbox 0 ! 0xA8 ∷ qarma128.unbox 1 ! 0x3E ∷ qarma128.unbox 2 ! 0xA7 ∷ [], 0x10 ∷ 0x53 ∷ 0xC8 ∷ [])
    -- turning four zeros
    ∷ (turned_four 0 0 0 0, 0 ∷ 0 ∷ 0x243F6A8885A308D313198A2E03707344 ∷ 0 ∷ [])
    -- turning words of which k0 is alpha, and k1 has a 1 in cell 0
    ∷ (turned_four 5 9 0x243F6A8885A308D313198A2E03707344 0x01000000000000000000000000000000, 9 ∷ 5 ∷ 0 ∷ 0x00000000200000001000000002000000 ∷ [])
    -- by two numbers each, the high one first: the schedule of a key whose w0 is 1, and four words turned of which k1 has a 1 in cell 0
    ∷ (eight_numbers (key_words (pair 0 1) (pair 2 3)), 0 ∷ 1 ∷ 0x8000000000000000 ∷ 0 ∷ 2 ∷ 3 ∷ 2 ∷ 3 ∷ [])
    ∷ (eight_numbers (turned_words record { w0 = pair 5 6; w1 = pair 9 10; k0 = pair 0 0; k1 = pair 0x0100000000000000 0 }), 9 ∷ 10 ∷ 5 ∷ 6 ∷ 0x243F6A8885A308D3 ∷ 0x13198A2E03707344 ∷ 0x0000000020000000 ∷ 0x1000000002000000 ∷ [])
    ∷ []

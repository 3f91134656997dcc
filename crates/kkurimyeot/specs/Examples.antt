-- Document 01, "Examples on both sides": the examples marked P, as one table. A row has what the definitions give, and what the paper says.
use Rattle.std.specs.Prelude.{List, [], ◌∷◌, ℕ}
use Rattle.cells.specs.Cells.{cut, joined, shuffled, mixed_column, bit_stepped, stepped}
use Rattle.cells64.specs.Qarma64.{qarma64, entries}
use Rattle.cipher.specs.Engine.{w1_from}
use Rattle.cipher64.specs.Words.{turned_words}
use Rattle.frame.specs.Blocks.{block, tweak}
use Rattle.kkurimyeot.specs.Calls.{four_words}

-- the tweak step on a word
abbrev stepped_word : ℕ → List ℕ
stepped_word t = joined 4 (stepped qarma64 (cut 4 t)) ∷ []

-- four words turned
abbrev turned_four : ℕ → ℕ → ℕ → ℕ → List ℕ
turned_four a b c d = four_words (turned_words record { w0 = a; w1 = b; k0 = c; k1 = d })

unfoldable pub table : List (List ℕ × List ℕ)
table =
    -- P1 to P3, w1 from w0
    (w1_from 64 1 ∷ [], 0x8000000000000000 ∷ [])
    ∷ (w1_from 64 0x8000000000000000 ∷ [], 0x4000000000000001 ∷ [])
    ∷ (w1_from 64 0xFFFFFFFFFFFFFFFF ∷ [], 0xFFFFFFFFFFFFFFFE ∷ [])
    -- P4, shuffle
    ∷ (joined 4 (shuffled (cut 4 0x0123456789ABCDEF)) ∷ [], 0x0B6DA1C75E38F492 ∷ [])
    -- P5 and P6, mix
    ∷ (mixed_column 4 entries (1 ∷ 0 ∷ 0 ∷ 0 ∷ []), 0 ∷ 2 ∷ 4 ∷ 2 ∷ [])
    ∷ (mixed_column 4 entries (0 ∷ 2 ∷ 4 ∷ 2 ∷ []), 1 ∷ 0 ∷ 0 ∷ 0 ∷ [])
    -- P7 and P8, the bit step on one cell
    ∷ (bit_stepped 4 1 1 ∷ [], 8 ∷ [])
    ∷ (bit_stepped 4 1 3 ∷ [], 1 ∷ [])
    -- P9 and P10, tweak step
    ∷ (stepped_word 0x0010000000000000, 0x0000001000000000 ∷ [])
    ∷ (stepped_word 0x0000001000000000, 0x8000000000000000 ∷ [])
    -- P11, turning four zeros
    ∷ (turned_four 0 0 0 0, 0 ∷ 0 ∷ 0xC0AC29B7C97C50DD ∷ 0 ∷ [])
    -- P12
    ∷ (turned_four 5 9 0xC0AC29B7C97C50DD 0x1000000000000000, 9 ∷ 5 ∷ 0 ∷ 0x0000200040002000 ∷ [])
    -- P13, filling the one byte FF
    ∷ (block (0xFF ∷ []) 0 ∷ [], 0xFF80000000000000 ∷ [])
    -- P14, purpose 4, serial 1, index 0
    ∷ (tweak 4 1 0 ∷ [], 0x4000000000010000 ∷ [])
    ∷ []

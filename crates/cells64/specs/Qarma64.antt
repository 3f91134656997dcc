-- Document 01, "The engine" and "Sizes": the entries, bit step, rounds and constants of QARMA-64. Document 000 has them in 3.1.2, 2.4 and Table 1; the boxes are those of 3.3 (`Boxes.antt`).
use Rattle.std.specs.Prelude.{List, [], ◌∷◌, ℕ, get_or}
use Rattle.words.specs.Lists.{◌!◌}
use Rattle.cells.specs.Boxes.{boxes, unboxes}
use Rattle.cells.specs.Cells.{Cipher, cut}

-- "Rows of entries: - 1 2 1; 1 - 1 2; 2 1 - 1; 1 2 1 -"
abbrev pub entries : List (List ℕ)
entries = (0 ∷ 1 ∷ 2 ∷ 1 ∷ []) ∷ (1 ∷ 0 ∷ 1 ∷ 2 ∷ []) ∷ (2 ∷ 1 ∷ 0 ∷ 1 ∷ []) ∷ (1 ∷ 2 ∷ 1 ∷ 0 ∷ []) ∷ []

-- "Constants in hexadecimal, c0 to c7", and "Alpha"
abbrev pub constants : List ℕ
constants =
    0x0000000000000000
    ∷ 0x13198A2E03707344
    ∷ 0xA4093822299F31D0
    ∷ 0x082EFA98EC4E6C89
    ∷ 0x452821E638D01377
    ∷ 0xBE5466CF34E90C6C
    ∷ 0x3F84D5B5B5470917
    ∷ 0x9216D5D98979FB1B
    ∷ []

abbrev pub alpha_word : ℕ
alpha_word = 0xC0AC29B7C97C50DD

abbrev pub qarma64 : Cipher
qarma64 =
    record {
      bits = 4;
      box = λ b. get_or boxes b [];
      unbox = λ b. get_or unboxes b [];
      rows = entries;
      -- "from bits (b3 b2 b1 b0) to (b0+b1, b3, b2, b1)"
      tap = 1;
      -- "rounds r from 3 to 8"
      rounds = 8;
      constant = λ i. cut 4 (constants ! i);
      alpha = cut 4 alpha_word;
    }

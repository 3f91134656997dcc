-- Request 3 of document 02: QARMA-128, what document 000 says of it for m = 8, in its order: the bit step (2.4), alpha and the constants (2.7, Table 2), the mix (3.1.2), the boxes (3.4). The key word rule (2.2) is one for both widths: `w1_from` (`cipher/specs/Engine.antt`).
use Rattle.std.specs.Prelude.{List, [], ◌∷◌, ℕ, ◌+◌, ◌*◌, ◌/◌, ◌%◌, get_or}
use Rattle.words.specs.Lists.{◌!◌, upto}
use Rattle.cells.specs.Boxes.{boxes, unboxes}
use Rattle.cells.specs.Cells.{Cipher, cut}

-- 2.4: "(b7, b6, .., b0) to (b0+b2, b7, b6, .., b1)": bit 2 is added to bit 0
abbrev pub tap : ℕ
tap = 2

-- 2.7: "we just take the first block of 128 bits in the fractional part of π as the α constant, set c0 = 0, and then each ci is a successive block" (Table 2)
abbrev pub constants : List ℕ
constants =
    0x00000000000000000000000000000000
    ∷ 0xA4093822299F31D0082EFA98EC4E6C89
    ∷ 0x452821E638D01377BE5466CF34E90C6C
    ∷ 0xC0AC29B7C97C50DD3F84D5B5B5470917
    ∷ 0x9216D5D98979FB1BD1310BA698DFB5AC
    ∷ 0x2FFD72DBD01ADFB7B8E1AFED6A267E96
    ∷ 0xBA7C9045F12C7F9924A19947B3916CF7
    ∷ 0x0801F2E2858EFC16636920D871574E69
    ∷ 0xA458FEA3F4933D7E0D95748F728EB658
    ∷ 0x718BCD5882154AEE7B54A41DC25A59B5
    ∷ 0x9C30D5392AF26013C5D1B023286085F0
    ∷ []

abbrev pub alpha_word : ℕ
alpha_word = 0x243F6A8885A308D313198A2E03707344

-- 3.1.2: "we choose .. the matrix M8,2 = Q8,2 for QARMA-128", which is "circ(0, ρ, ρ^4, ρ^5)": each row is the one above it moved on by one
abbrev pub entries : List (List ℕ)
entries = (0 ∷ 1 ∷ 4 ∷ 5 ∷ []) ∷ (5 ∷ 0 ∷ 1 ∷ 4 ∷ []) ∷ (4 ∷ 5 ∷ 0 ∷ 1 ∷ []) ∷ (1 ∷ 4 ∷ 5 ∷ 0 ∷ []) ∷ []

-- 3.4: "placing two instances of a single 4-bit S-Box in parallel": the box t on (x7, x6, x5, x4), the upper half of a cell, and on (x3, x2, x1, x0), the lower
abbrev pub both : List ℕ → ℕ → ℕ
both t v = t ! (v / 16) * 16 + t ! (v % 16)

-- (b3, b2, b1, b0) at the places 6, 4, 2, 0 of a cell; and the bits at these places, as a number of 4 bits
abbrev pub spread : ℕ → ℕ
spread x = x % 2 + x / 2 % 2 * 4 + x / 4 % 2 * 16 + x / 8 % 2 * 64

abbrev pub gathered : ℕ → ℕ
gathered v = v % 2 + v / 4 % 2 * 2 + v / 16 % 2 * 4 + v / 64 % 2 * 8

-- the upper outputs are "(x'7, x'5, x'3, x'1)", the lower ones "(x'6, x'4, x'2, x'0)"; and "the opposite wiring", for the inverse box
abbrev pub wiring : ℕ → ℕ
wiring v = spread (v / 16) * 2 + spread (v % 16)

abbrev pub unwiring : ℕ → ℕ
unwiring v = gathered (v / 2) * 16 + gathered v

-- the 8-bit box that two of the 4-bit box t make, and its inverse, for the inverse u of t
abbrev pub wired : List ℕ → List ℕ
wired t = upto 256 (λ v. wiring (both t v))

abbrev pub unwired : List ℕ → List ℕ
unwired u = upto 256 (λ v. both u (unwiring v))

abbrev pub qarma128 : Cipher
qarma128 =
    record {
      bits = 8;
      box = λ b. wired (get_or boxes b []);
      unbox = λ b. unwired (get_or unboxes b []);
      rows = entries;
      tap = tap;
      -- request 3: "Rounds 3 to 11"
      rounds = 11;
      constant = λ i. cut 8 (constants ! i);
      alpha = cut 8 alpha_word;
    }

-- Document 01, "The frame line": the reading of a line, computed. Whether a byte may stand at a place, the bytes up to it decide. `proofs/Places.antt` shows that it is what `Line.antt` asks for.
use Rattle.std.specs.Prelude.{ℕ, zero, suc, ◌+◌, ◌-◌, ◌*◌, List, [], ◌∷◌, Bool, cond, ◌&&◌, length, get_or, take, ltb, leb, eqb}
use Rattle.line.specs.Line.{Reading, not_line, placed}
use Rattle.frame.specs.Frames.{sealed_size, label_max, message_max}

-- the value of a lowercase hexadecimal digit, '0' to '9' and 'a' to 'f'; 16 for any other byte
unfoldable pub hex_value : ℕ → ℕ
hex_value b = cond (ltb b 48) 16 (cond (ltb b 58) (b - 48) (cond (ltb b 97) 16 (cond (ltb b 103) (b - 87) 16)))

-- the number of the n digits from place a on; a digit past the end counts as '0', byte 48. It is the word of their values (`number_word`, `proofs/Bytes.antt`)
unfoldable pub number_at : List ℕ → ℕ → ℕ → ℕ
number_at s a zero = 0
number_at s a (suc n) = number_at s a n * 16 + hex_value (get_or s (a + n) 48)

-- version at 0, serial at 2 with its top digit 0, label length at 14, message length at 16, label at 20, sealed bytes after it, and byte 0A at the end
abbrev pub serial_of : List ℕ → ℕ
serial_of s = number_at s 3 11

abbrev pub label_length : List ℕ → ℕ
label_length s = number_at s 14 2

abbrev pub message_length : List ℕ → ℕ
message_length s = number_at s 16 4

abbrev pub end_of : List ℕ → ℕ
end_of s = 20 + 2 * (label_length s + sealed_size (message_length s))

-- n bytes of two digits each, from place a on
abbrev pub bytes_at : List ℕ → ℕ → ℕ → List ℕ
bytes_at s a zero = []
bytes_at s a (suc n) = number_at s a 2 ∷ bytes_at s (a + 2) n

-- may byte b stand at place i of a line whose 0A stands at place e? First 01, then the serial's top digit 0, then digits, then 0A
unfoldable pub stands : ℕ → ℕ → ℕ → Bool
stands i b e =
    cond (eqb i 0) (eqb b 48)
    (cond (eqb i 1) (eqb b 49)
    (cond (eqb i 2) (eqb b 48)
    (cond (ltb i e) (ltb (hex_value b) 16) (eqb i e && eqb b 10))))

-- may byte i stand there, by the bytes up to it?
unfoldable pub fits : List ℕ → ℕ → Bool
fits s i =
    leb (label_length (take (i + 1) s)) label_max
    && leb (message_length (take (i + 1) s)) message_max
    && stands i (get_or s i 48) (end_of (take (i + 1) s))

-- the first of the n numbers from k on that fails the test, or k + n
abbrev pub first : (ℕ → Bool) → ℕ → ℕ → ℕ
first f zero k = k
first f (suc n) k = cond (f k) (first f n (suc k)) k

-- the first byte that may not stand where it stands, or how many bytes there are
unfoldable pub place : List ℕ → ℕ
place s = first (fits s) (length s) 0

-- each byte may stand where it stands, and the 0A is the last
unfoldable pub good : List ℕ → Bool
good s = eqb (place s) (length s) && eqb (length s) (end_of s + 1)

-- the fields and their places, or the place
unfoldable pub reading : List ℕ → Reading
reading s = cond (good s) (placed (serial_of s) (label_length s) (message_length s)) (not_line (place s))

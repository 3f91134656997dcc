-- Document 01, "The frame line": what a good line is, what begins one, the place in refusal 7, and what a reader answers.
use Rattle.std.specs.Prelude.{ℕ, ◌+◌, ◌*◌, ◌<◌, ◌≡◌, List, [], ◌∷◌, ◌++◌, map, cond, length, take, ltb, Result, Ok, Err}
use Rattle.words.specs.Digits.{digits, Digits}
use Rattle.refusals.specs.Refusals.{Answer}
use Rattle.refusals.specs.declared.Refusal.TheVariants.{Line}
use Rattle.frame.specs.Frames.{sealed_size, Within}
use Rattle.line.specs.declared.Fields.{Fields}
use Rattle.line.specs.declared.NotLine.{NotLine}

-- "Lowercase hexadecimal": '0' is byte 48, 'a' is byte 97
unfoldable pub hex_digit : ℕ → ℕ
hex_digit d = cond (ltb d 10) (d + 48) (d + 87)

-- the last k digits of a number, the most significant first
unfoldable pub hex_digits : ℕ → ℕ → List ℕ
hex_digits k n = map hex_digit (digits 4 k n)

-- two digits for each byte
unfoldable pub hex : List ℕ → List ℕ
hex [] = []
hex (b ∷ bs) = hex_digits 2 b ++ hex bs

-- "one frame a line": of the message its length, for "no key enters into it"
pub record Frame : Type 0 where
  pub serial : ℕ
  pub label : List ℕ
  pub message_length : ℕ
  pub sealed : List ℕ

-- "its lengths inside the limits and its sealed bytes as long as the message length calls for"; a serial within them is "6 bytes with the top digit 0"
pub record Limits (f : Frame) : Type 0 where
  pub within : Within f.serial f.label f.message_length
  pub sealed : length f.sealed ≡ sealed_size f.message_length
  pub label_bytes : Digits 8 f.label
  pub sealed_are_bytes : Digits 8 f.sealed

-- "version 01; serial, 6 bytes ..; label length, 1 byte; message length, 2 bytes; label; sealed bytes", "ended by byte 0A"
unfoldable pub line_of : Frame → List ℕ
line_of f =
    hex_digits 2 1
    ++ (hex_digits 12 f.serial
    ++ (hex_digits 2 (length f.label) ++ (hex_digits 4 f.message_length ++ (hex f.label ++ (hex f.sealed ++ (10 ∷ []))))))

-- "A good line is one of just this shape": s is the line of f
pub record LineOf (s : List ℕ) (f : Frame) : Type 0 where
  pub limits : Limits f
  pub line : s ≡ line_of f

abbrev pub GoodLine : List ℕ → Type 0
GoodLine s = (f : Frame) × LineOf s f

-- bytes "begin" a good line if some more make them one
abbrev pub Begins : List ℕ → Type 0
Begins p = (q : List ℕ) × GoodLine (p ++ q)

-- Document 01, "What a refused caller gets": "The place in 7 is the smallest k such that the first k+1 bytes begin no good line; if the bytes are a good line cut short, it is their count."
pub data Place (s : List ℕ) (k : ℕ) : Type 0 where
  wrong : k < length s → ((j : ℕ) → j < k → Begins (take (j + 1) s)) → (Begins (take (k + 1) s) → ⊥) → Place s k
  short : Begins s → (GoodLine s → ⊥) → k ≡ length s → Place s k

-- "A reading answer either carries the fields and their places or the refusal and its place"
abbrev pub Reading : Type 0
Reading = Result Fields NotLine

abbrev pub not_line : ℕ → Reading
not_line k = Err (record { place = k })

-- "the fields and their places": two digits a byte, label and sealed bytes stand behind the twenty digits of version, serial and lengths
abbrev pub placed : ℕ → ℕ → ℕ → Reading
placed serial l n = Ok (record { serial = serial; label_length = l; message_length = n; label_place = 20; sealed_place = 20 + 2 * l })

abbrev pub fields_of : Frame → Reading
fields_of f = placed f.serial (length f.label) f.message_length

-- what a reading of s may be
pub data Reads (s : List ℕ) : Reading → Type 0 where
  fields : (f : Frame) → LineOf s f → Reads s (fields_of f)
  refused : (k : ℕ) → Place s k → Reads s (not_line k)

-- refusal 7 and its place, which a reading answer without fields stands for
abbrev pub refused_at : ℕ → Answer
refused_at k = Err (Line k)

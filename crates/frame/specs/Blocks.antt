-- Document 01, "Sealing and opening": blocks, fill, tweaks and purposes.
use Rattle.std.specs.Prelude.{List, [], ◌∷◌, ◌++◌, ℕ, ◌+◌, ◌-◌, ◌*◌, ◌/◌, ◌%◌, ◌^◌, length, take, drop, replicate}
use Rattle.words.specs.Cases.{if_le}
use Rattle.words.specs.Digits.{word}
use Rattle.frame.specs.declared.Filled.{Filled}
use Rattle.frame.specs.declared.Purpose.{Purpose}
use Rattle.frame.specs.declared.Purpose.TheVariants.{WholeMessage, FilledMessage, WholeLabel, FilledLabel, WholeTag, FilledTag}

-- "Message and label are each cut into blocks of 8 bytes"; "An empty input has no blocks": how many blocks n bytes have
abbrev pub blocks : ℕ → ℕ
blocks n = (n + 7) / 8

-- the bytes of block i
abbrev pub part : List ℕ → ℕ → List ℕ
part s i = take 8 (drop (i * 8) s)

-- "A last part of 1 to 7 bytes is filled with byte 80 and then bytes 00.": what filling adds to a part of n bytes
abbrev pub fill_of : ℕ → List ℕ
fill_of n = if_le 8 n [] (0x80 ∷ replicate (7 - n) 0)

-- a part filled, if it is short
unfoldable pub filled : List ℕ → List ℕ
filled p = p ++ fill_of (length p)

-- request 4 of document 02, what filling a part answers: "the word and how many bytes it added"
abbrev pub filling : List ℕ → Filled
filling p = record { word = word 8 (filled p); added = length (fill_of (length p)) }

-- block i as a word, filled if it is short
abbrev pub block : List ℕ → ℕ → ℕ
block s i = word 8 (filled (part s i))

-- "Purposes: 0 whole message block; 1 filled message block; 2 whole label block; 3 filled label block; 4 tag when the message length is a multiple of 8, zero included; 5 tag otherwise"
abbrev pub number : Purpose → ℕ
number WholeMessage = 0
number FilledMessage = 1
number WholeLabel = 2
number FilledLabel = 3
number WholeTag = 4
number FilledTag = 5

-- "Tweak, from the top: purpose (4 bits), serial (44 bits), index (16 bits)."
abbrev pub tweak : ℕ → ℕ → ℕ → ℕ
tweak purpose serial index = purpose * 2 ^ 60 + serial * 2 ^ 16 + index

-- "0 whole message block; 1 filled message block"; "2 whole label block; 3 filled label block": of a block to be sealed, from that of a whole one and how many bytes filling added
unfoldable pub purpose : ℕ → ℕ → ℕ
purpose whole added = if_le added 0 whole (whole + 1)

-- request 4, "opening, which has no plain message block yet, from the stated length": of block i of a message of n bytes
unfoldable pub opened_purpose : ℕ → ℕ → ℕ
opened_purpose n i = if_le (i * 8 + 8) n 0 1

-- "4 tag when the message length is a multiple of 8, zero included; 5 tag otherwise"
unfoldable pub tag_purpose : ℕ → ℕ
tag_purpose n = if_le (n % 8) 0 4 5

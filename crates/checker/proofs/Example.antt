-- Document 01, "The file checker's listing": its example holds of the definition, by computation.
use Prim.Native.Nat.{ℕ}
use mathlib.Core.List.{List, [], ◌∷◌, ◌++◌}
use mathlib.Core.Path.{◌≡◌, refl}
use lib.ListN.{replicate}
use Rattle.line.specs.Reader.{hex_value, number_at, stands, fits, place, good, reading}
use Rattle.line.specs.Calls.{opening_line}
use Rattle.texts.specs.Texts.{spelled}
use Rattle.texts.specs.Lines.{lines_of}
use Rattle.listing.specs.Listing.{is_key, answer_of, listed, listing}

-- "a key line of 32 zeros, then `01` and byte 0A"
abbrev input : List ℕ
input = replicate 32 48 ++ 10 ∷ 48 ∷ 49 ∷ 10 ∷ []

-- "1 refused 7 at 2", 0A
abbrev first_line : List ℕ
first_line = 49 ∷ 32 ∷ 114 ∷ 101 ∷ 102 ∷ 117 ∷ 115 ∷ 101 ∷ 100 ∷ 32 ∷ 55 ∷ 32 ∷ 97 ∷ 116 ∷ 32 ∷ 50 ∷ 10 ∷ []

-- "lines 1 opened 0 refused 1", 0A
abbrev second_line : List ℕ
second_line =
    108 ∷ 105 ∷ 110 ∷ 101 ∷ 115 ∷ 32 ∷ 49 ∷ 32 ∷ 111 ∷ 112 ∷ 101 ∷ 110 ∷ 101 ∷ 100 ∷ 32 ∷ 48 ∷ 32 ∷ 114 ∷ 101 ∷ 102 ∷ 117 ∷ 115 ∷ 101 ∷ 100 ∷ 32 ∷ 49 ∷ 10 ∷ []

-- "The whole output"
abbrev output : List ℕ
output = first_line ++ second_line

pub example : listing input ≡ output
unfolding hex_value number_at stands fits place good reading opening_line lines_of is_key spelled answer_of listed
example = refl

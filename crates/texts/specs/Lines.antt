-- Document 01, "The file checker's listing", and request 5: the lines of a file.
use Rattle.std.specs.Prelude.{ℕ, suc, cond, List, [], ◌∷◌, eqb}

-- a byte before the first of the lines
abbrev pub on_first : ℕ → List (List ℕ) → List (List ℕ)
on_first b [] = (b ∷ []) ∷ []
on_first b (l ∷ ls) = (b ∷ l) ∷ ls

-- "A last piece without 0A counts as a line if it isn't empty": a line is its bytes with its 0A
unfoldable pub lines_of : List ℕ → List (List ℕ)
lines_of [] = []
lines_of (b ∷ s) = cond (eqb b 10) ((b ∷ []) ∷ lines_of s) (on_first b (lines_of s))

-- how many bytes the first line has
unfoldable pub line_length : List ℕ → ℕ
line_length [] = 0
line_length (b ∷ s) = cond (eqb b 10) 1 (suc (line_length s))

-- how many bytes are 0A
unfoldable pub ends : List ℕ → ℕ
ends [] = 0
ends (b ∷ s) = cond (eqb b 10) (suc (ends s)) (ends s)

-- the last byte of b and the bytes behind it
abbrev pub last_of : ℕ → List ℕ → ℕ
last_of b [] = b
last_of b (c ∷ s) = last_of c s

-- 1 where the text is not empty and its last byte is not 0A, else 0
unfoldable pub unended : List ℕ → ℕ
unended [] = 0
unended (b ∷ s) = cond (eqb (last_of b s) 10) 0 1

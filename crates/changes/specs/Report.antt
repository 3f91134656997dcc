-- Request 5: "What changed between two card files": the report, from the lines of two files.
use Rattle.std.specs.Prelude.{ℕ, zero, suc, ◌+◌, ◌^◌, Bool, cond, ◌&&◌, List, [], ◌∷◌, ◌++◌, eqb, length, take, drop}
use Rattle.std.specs.Int.Count.{ones}
use Rattle.words.specs.Digits.{◌⊕◌}
use Rattle.line.specs.Reader.{serial_of}
use Rattle.texts.specs.Texts.{decimal}

-- ---- two lines

-- "the place of the first differing byte, from 0"
unfoldable pub differ_at : List ℕ → List ℕ → ℕ
differ_at [] [] = 0
differ_at [] (y ∷ ys) = 0
differ_at (x ∷ xs) [] = 0
differ_at (x ∷ xs) (y ∷ ys) = cond (eqb x y) (suc (differ_at xs ys)) 0

-- "how many bits differ over the whole line": "Ones counted in the exclusive or of each pair of bytes, summed"
unfoldable pub bits_of : List ℕ → List ℕ → ℕ
bits_of [] [] = 0
bits_of [] (y ∷ ys) = 0
bits_of (x ∷ xs) [] = 0
bits_of (x ∷ xs) (y ∷ ys) = ones (x ⊕ y) + bits_of xs ys

-- ---- a report line

-- "first ", "second ", "both "
abbrev pub first_text : List ℕ
first_text = 102 ∷ 105 ∷ 114 ∷ 115 ∷ 116 ∷ 32 ∷ []

abbrev pub second_text : List ℕ
second_text = 115 ∷ 101 ∷ 99 ∷ 111 ∷ 110 ∷ 100 ∷ 32 ∷ []

abbrev pub both_text : List ℕ
both_text = 98 ∷ 111 ∷ 116 ∷ 104 ∷ 32 ∷ []

-- "the serial's 12 digits": they stand behind the version's two
abbrev pub serial_digits : List ℕ → List ℕ
serial_digits l = take 12 (drop 2 l)

-- "`first`, `second` or `both`, the serial's 12 digits, .. with single blanks and byte 0A"
unfoldable pub saying : List ℕ → List ℕ → List ℕ → List ℕ
saying word l rest = word ++ (serial_digits l ++ (rest ++ (10 ∷ [])))

-- "For a pair of equal length, report the place .. and how many bits differ": "then those two numbers in decimal if any"
unfoldable pub numbers : List ℕ → List ℕ → List ℕ
numbers x y = cond (eqb (length x) (length y)) (32 ∷ (decimal (differ_at x y) ++ (32 ∷ decimal (bits_of x y)))) []

-- of equal length, and with no differing byte
abbrev pub same : List ℕ → List ℕ → Bool
same x y = eqb (length x) (length y) && eqb (differ_at x y) (length x)

-- "in both but different"
unfoldable pub pair : List ℕ → List ℕ → List ℕ
pair x y = cond (same x y) [] (saying both_text x (numbers x y))

-- "lines only in the first, only in the second, and in both but different": from the lines of one serial in each file
unfoldable pub change : List (List ℕ) → List (List ℕ) → List ℕ
change [] [] = []
change (x ∷ xs) [] = saying first_text x []
change [] (y ∷ ys) = saying second_text y []
change (x ∷ xs) (y ∷ ys) = pair x y

-- ---- the report

-- the lines that have the serial s
unfoldable pub under : ℕ → List (List ℕ) → List (List ℕ)
under s [] = []
under s (l ∷ ls) = cond (eqb (serial_of l) s) (l ∷ under s ls) (under s ls)

-- what f says of the n serials from s on, "by rising serial"
unfoldable pub rising : (ℕ → List ℕ) → ℕ → ℕ → List ℕ
rising f zero s = []
rising f (suc n) s = f s ++ rising f n (s + 1)

-- "in one list by rising serial": a serial is at most 2^44 - 1
unfoldable pub report : List (List ℕ) → List (List ℕ) → List ℕ
report a b = rising (λ s. change (under s a) (under s b)) (2 ^ 44) 0

-- Document 01, "The engine": "A block, a tweak and each key half are 64 bits, read as sixteen cells of 4 bits. Cell 0 is the most significant."
-- "Bytes become a word with the first byte most significant." Cells and bytes are both digits of m bits, the most significant first.
use Rattle.std.specs.Prelude.{List, [], ◌∷◌, ◌++◌, ℕ, zero, suc, ◌+◌, ◌*◌, ◌/◌, ◌%◌, ◌^◌, ◌<◌}
use Rattle.std.specs.Int.Bits.{bit_xor}

-- "'Add', 'plus', 'sum' and + on words, cells or bits mean exclusive or"
infixl 60 ◌⊕◌
abbrev pub ◌⊕◌ : ℕ → ℕ → ℕ
a ⊕ b = bit_xor a b

-- the number a, followed by the digits of a list
abbrev pub word_from : ℕ → ℕ → List ℕ → ℕ
word_from m a [] = a
word_from m a (d ∷ ds) = word_from m (a * 2 ^ m + d) ds

-- the number whose digits are those of a list
abbrev pub word : ℕ → List ℕ → ℕ
word m ds = word_from m 0 ds

-- the n low digits of a number
abbrev pub digits : ℕ → ℕ → ℕ → List ℕ
digits m zero w = []
digits m (suc n) w = digits m n (w / 2 ^ m) ++ (w % 2 ^ m ∷ [])

-- each element is a digit of m bits
pub data Digits (m : ℕ) : List ℕ → Type 0 where
  none : Digits m []
  more : {d : ℕ} {ds : List ℕ} → d < 2 ^ m → Digits m ds → Digits m (d ∷ ds)

-- Document 01, "What a refused caller gets": "8 bytes a word, most significant first": the bytes of the n words f 0, f 1, .., f (n - 1)
abbrev pub laid : ℕ → (ℕ → ℕ) → List ℕ
laid zero f = []
laid (suc n) f = laid n f ++ digits 8 8 (f n)

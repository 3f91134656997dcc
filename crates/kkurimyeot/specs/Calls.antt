-- c-interface.md, and document 01, "What a refused caller gets": what a C call returns, and what it leaves in the memory it was lent.
use Rattle.refusals.specs.declared.Refusal.{Refusal}
use Rattle.std.specs.Prelude.{Result, ◌≡◌, List, [], ◌∷◌, ℕ, length, get_or, Err, Ok}
use Rattle.words.specs.Digits.{laid}
use Rattle.refusals.specs.Refusals.{returned_of, giving, Answer}
use Rattle.line.specs.Line.{Reading, Reads, refused_at}
use Rattle.cells128.specs.declared.Pair.{Pair}
use Rattle.cipher.specs.declared.Words.{Words}

-- "an answer made of words goes to a lent slice, 8 bytes a word, most significant first, and 5 can come"
unfoldable pub words_given : List ℕ → List ℕ → Answer × List ℕ
words_given ws out = giving (laid (length ws) (λ i. get_or ws i 0)) out

-- "after 1"; "Lent memory is unchanged by all of them": what is given of an answer, by the words of it
abbrev pub answer_given : {A : Type 0} → (A → List ℕ) → Result A Refusal → List ℕ → Answer × List ℕ
answer_given f (Ok x) out = words_given (f x) out
answer_given f (Err r) out = (Err r, out)

-- of a block of 64 bits, one word
abbrev pub one : ℕ → List ℕ
one w = w ∷ []

abbrev pub block_given : Result ℕ Refusal → List ℕ → Answer × List ℕ
block_given answer out = answer_given one answer out

-- the four words of a schedule, in the order w0, w1, k0, k1
abbrev pub four_words : Words ℕ → List ℕ
four_words s = s.w0 ∷ s.w1 ∷ s.k0 ∷ s.k1 ∷ []

-- "A value of 128 bits is two numbers, the high one first", and four words of such
abbrev pub pair : ℕ → ℕ → Pair
pair h l = record { high = h; low = l }

abbrev pub four : ℕ → ℕ → ℕ → ℕ → ℕ → ℕ → ℕ → ℕ → Words Pair
four w0h w0l w1h w1l k0h k0l k1h k1l = record { w0 = pair w0h w0l; w1 = pair w1h w1l; k0 = pair k0h k0l; k1 = pair k1h k1l }

-- "a word in lent memory is 16 bytes, most significant first": the 8 of its high number, then the 8 of its low one
abbrev pub two : Pair → List ℕ
two w = w.high ∷ w.low ∷ []

abbrev pub block_given128 : Result Pair Refusal → List ℕ → Answer × List ℕ
block_given128 answer out = answer_given two answer out

abbrev pub four_words128 : Words Pair → List ℕ
four_words128 s = s.w0.high ∷ s.w0.low ∷ s.w1.high ∷ s.w1.low ∷ s.k0.high ∷ s.k0.low ∷ s.k1.high ∷ s.k1.low ∷ []

-- "The returned number", with the memory
abbrev pub returning : Answer × List ℕ → ℕ × List ℕ
returning a = (returned_of a.0, a.1)

-- "`kk_read_line` five words, 40 bytes: serial, label length, message length, the label's place, the sealed bytes' place"; "7 first for line calls"
abbrev pub reading_given : Reading → List ℕ → Answer × List ℕ
reading_given (Ok f) out = words_given (f.serial ∷ f.label_length ∷ f.message_length ∷ f.label_place ∷ f.sealed_place ∷ []) out
reading_given (Err e) out = (refused_at e.place, out)

-- what is given is the reading that the paper asks for
pub record GivesReading (s out : List ℕ) (x : ℕ × List ℕ) : Type 0 where
  pub answer : Reading
  pub reads : Reads s answer
  pub gives : x ≡ returning (reading_given answer out)

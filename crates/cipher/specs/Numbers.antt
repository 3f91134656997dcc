-- Document 01, "The pad's cipher, its frames, its lines": "keys, tweaks, blocks and schedule words pass in as 64-bit numbers", and request 3 of document 02: the engine on numbers, over the cell width, and on words that stand for numbers.
use Rattle.std.specs.Prelude.{Result, ℕ, Ok, Err}
use Rattle.refusals.specs.declared.Refusal.{Refusal}
use Rattle.refusals.specs.declared.Refusal.TheVariants.{Settings}
use Rattle.words.specs.Cases.{if_le}
use Rattle.cells.specs.Cells.{Cipher, cut, joined}
use Rattle.cipher.specs.Engine.{schedule_of, key_schedule, engine, turned}
use Rattle.cipher.specs.declared.Key.{Key}
use Rattle.cipher.specs.declared.Schedule.{Schedule}
use Rattle.cipher.specs.declared.Words.{Words}

-- the four words of a schedule, as numbers
pub record Numbers : Type 0 where
  pub w0 : ℕ
  pub w1 : ℕ
  pub k0 : ℕ
  pub k1 : ℕ

-- a schedule of four words, and the four words of a schedule
abbrev pub cut_numbers : Cipher → Numbers → Schedule
cut_numbers c n = schedule_of c.bits n.w0 n.w1 n.k0 n.k1

unfoldable pub joined_numbers : Cipher → Schedule → Numbers
joined_numbers c s = record { w0 = joined c.bits s.w0; w1 = joined c.bits s.w1; k0 = joined c.bits s.k0; k1 = joined c.bits s.k1 }

-- the schedule of a key, and a schedule turned, as numbers
abbrev pub key_numbers : Cipher → ℕ → ℕ → Numbers
key_numbers c w0 k0 = joined_numbers c (key_schedule c w0 k0)

abbrev pub turned_numbers : Cipher → Numbers → Numbers
turned_numbers c n = joined_numbers c (turned c (cut_numbers c n))

-- the engine under a schedule, on a tweak and a block that are numbers
abbrev pub engine_word : Cipher → ℕ → ℕ → Schedule → ℕ → ℕ → ℕ
engine_word c b r s t p = joined c.bits (engine c b r s (cut c.bits t) (cut c.bits p))

-- Document 01, "Sizes": "box number 0, 1 or 2; rounds r from 3 to 8", and request 3: "Rounds 3 to 11": the first within them, else the second
abbrev pub sized : {A : Type 0} → Cipher → ℕ → ℕ → A → A → A
sized c b r x y = if_le b 2 (if_le 3 r (if_le r c.rounds x y) y) y

-- ---- words that stand for numbers: one of 64 bits, or two

-- a cipher, what number a word of the type A is, and the word of a number
pub record Form (A : Type 0) : Type 0 where
  pub cipher : Cipher
  pub number : A → ℕ
  pub word : ℕ → A

-- the code's four words as numbers, and numbers as such words
abbrev pub numbers_of : {A : Type 0} → Form A → Words A → Numbers
numbers_of f s = record { w0 = f.number s.w0; w1 = f.number s.w1; k0 = f.number s.k0; k1 = f.number s.k1 }

abbrev pub words_of : {A : Type 0} → Form A → Numbers → Words A
words_of f n = record { w0 = f.word n.w0; w1 = f.word n.w1; k0 = f.word n.k0; k1 = f.word n.k1 }

-- the schedule of four words, and of a key
abbrev pub cut_words : {A : Type 0} → Form A → Words A → Schedule
cut_words f s = cut_numbers f.cipher (numbers_of f s)

abbrev pub cut_key : {A : Type 0} → Form A → Key A → Schedule
cut_key f k = key_schedule f.cipher (f.number k.w0) (f.number k.k0)

-- the words of a schedule, of the schedule of a key, and of a schedule turned
abbrev pub joined_words : {A : Type 0} → Form A → Schedule → Words A
joined_words f s = words_of f (joined_numbers f.cipher s)

abbrev pub key_words : {A : Type 0} → Form A → Key A → Words A
key_words f k = joined_words f (cut_key f k)

abbrev pub turned_words : {A : Type 0} → Form A → Words A → Words A
turned_words f s = words_of f (turned_numbers f.cipher (numbers_of f s))

-- the engine within the sizes, else refusal 1
unfoldable pub block_call : {A : Type 0} → Form A → ℕ → ℕ → Schedule → A → A → Result A Refusal
block_call f b r s t p = sized f.cipher b r (Ok (f.word (engine_word f.cipher b r s (f.number t) (f.number p)))) (Err Settings)

-- "The engine also runs on four free words.": the block calls on four free words; under the schedule of a key; under that schedule turned
abbrev pub engine_call : {A : Type 0} → Form A → ℕ → ℕ → Words A → A → A → Result A Refusal
engine_call f b r s t p = block_call f b r (cut_words f s) t p

abbrev pub encipher_call : {A : Type 0} → Form A → ℕ → ℕ → Key A → A → A → Result A Refusal
encipher_call f b r k t p = block_call f b r (cut_key f k) t p

abbrev pub decipher_call : {A : Type 0} → Form A → ℕ → ℕ → Key A → A → A → Result A Refusal
decipher_call f b r k t p = block_call f b r (turned f.cipher (cut_key f k)) t p

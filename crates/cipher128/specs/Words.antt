-- Request 3 of document 02, and c-interface.md: "A value of 128 bits is two numbers, the high one first": the engine on such values.
use Rattle.std.specs.Prelude.{Result, ℕ}
use Rattle.refusals.specs.declared.Refusal.{Refusal}
use Rattle.cells128.specs.Qarma128.{qarma128}
use Rattle.cells128.specs.Halves.{whole, halves}
use Rattle.cells128.specs.declared.Pair.{Pair}
use Rattle.cipher.specs.Numbers.{Form, Numbers}
use Rattle.cipher.specs.Numbers as every
use Rattle.cipher.specs.declared.Schedule.{Schedule}
use Rattle.cipher.specs.declared.Words.{Words}

-- a word is two numbers
abbrev pub form128 : Form Pair
form128 = record { cipher = qarma128; number = whole; word = halves }

-- the code's four words as numbers, and numbers as such words
abbrev pub numbers_of : Words Pair → Numbers
numbers_of s = every.numbers_of form128 s

abbrev pub words_of : Numbers → Words Pair
words_of n = every.words_of form128 n

-- the schedule of a key, and a schedule turned, as words
abbrev pub key_words : Pair → Pair → Words Pair
key_words w0 k0 = every.key_words form128 record { w0 = w0; k0 = k0 }

abbrev pub turned_words : Words Pair → Words Pair
turned_words s = every.turned_words form128 s

-- the engine within the sizes, else refusal 1
abbrev pub block_call : ℕ → ℕ → Schedule → Pair → Pair → Result Pair Refusal
block_call b r s t p = every.block_call form128 b r s t p

-- Document 01, "The engine also runs on four free words.": the block calls on four free words; under the schedule of a key; under that schedule turned
abbrev pub engine_call : ℕ → ℕ → Words Pair → Pair → Pair → Result Pair Refusal
engine_call b r s t p = every.engine_call form128 b r s t p

abbrev pub encipher_call : ℕ → ℕ → Pair → Pair → Pair → Pair → Result Pair Refusal
encipher_call b r w0 k0 t p = every.encipher_call form128 b r record { w0 = w0; k0 = k0 } t p

abbrev pub decipher_call : ℕ → ℕ → Pair → Pair → Pair → Pair → Result Pair Refusal
decipher_call b r w0 k0 t p = every.decipher_call form128 b r record { w0 = w0; k0 = k0 } t p

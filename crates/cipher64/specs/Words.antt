-- Document 01, "The pad's cipher, its frames, its lines": "keys, tweaks, blocks and schedule words pass in as 64-bit numbers": the engine on such numbers.
use Rattle.std.specs.Prelude.{Result, ℕ}
use Rattle.refusals.specs.declared.Refusal.{Refusal}
use Rattle.cells64.specs.Qarma64.{qarma64}
use Rattle.cipher.specs.Numbers.{Form, Numbers}
use Rattle.cipher.specs.Numbers as every
use Rattle.cipher.specs.declared.Schedule.{Schedule}
use Rattle.cipher.specs.declared.Words.{Words}

-- a word is its number
abbrev pub form64 : Form ℕ
form64 = record { cipher = qarma64; number = λ n. n; word = λ n. n }

-- the code's four words of 64 bits as numbers, and numbers as such words
abbrev pub numbers_of : Words ℕ → Numbers
numbers_of s = every.numbers_of form64 s

abbrev pub words_of : Numbers → Words ℕ
words_of n = every.words_of form64 n

-- the schedule of a key, and a schedule turned, as words
abbrev pub key_words : ℕ → ℕ → Words ℕ
key_words w0 k0 = every.key_words form64 record { w0 = w0; k0 = k0 }

abbrev pub turned_words : Words ℕ → Words ℕ
turned_words s = every.turned_words form64 s

-- the engine within the sizes, else refusal 1
abbrev pub block_call : ℕ → ℕ → Schedule → ℕ → ℕ → Result ℕ Refusal
block_call b r s t p = every.block_call form64 b r s t p

-- "The engine also runs on four free words.": the block calls on four free words; under the schedule of a key; under that schedule turned
abbrev pub engine_call : ℕ → ℕ → Words ℕ → ℕ → ℕ → Result ℕ Refusal
engine_call b r s t p = every.engine_call form64 b r s t p

abbrev pub encipher_call : ℕ → ℕ → ℕ → ℕ → ℕ → ℕ → Result ℕ Refusal
encipher_call b r w0 k0 t p = every.encipher_call form64 b r record { w0 = w0; k0 = k0 } t p

abbrev pub decipher_call : ℕ → ℕ → ℕ → ℕ → ℕ → ℕ → Result ℕ Refusal
decipher_call b r w0 k0 t p = every.decipher_call form64 b r record { w0 = w0; k0 = k0 } t p

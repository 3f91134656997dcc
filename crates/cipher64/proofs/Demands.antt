-- Demands 2 and 3 for QARMA-64, read off from those of every lawful cipher: on the words that the calls take.
use mathlib.Core.Path.{◌≡◌, sym, ap, ◌∙◌}
use Prim.Native.Nat.{ℕ, ◌^◌, ◌<◌, ◌≤◌}
use Rattle.refusals.specs.declared.Refusal.TheVariants.{Settings}
use Rattle.cells64.specs.Qarma64.{qarma64}
use Rattle.cells64.proofs.Lawful64.{lawful64}
use Rattle.cipher.specs.Engine.{key_schedule, turned}
use Rattle.cipher.specs.Numbers.{cut_numbers, engine_word}
use Rattle.cipher.specs.declared.Schedule.{Schedule}
use Rattle.cipher.proofs.Demands.{Four, key_below, word_undone, within, outside_box, outside_few, outside_many}
use Rattle.cipher.specs.Numbers.{block_call as every_block_call}
use Rattle.cipher.proofs.Demands as every
use Rattle.cipher64.specs.Words.{numbers_of, words_of, turned_words, block_call, encipher_call, decipher_call}
use Rattle.cipher.specs.declared.Words.{Words}
use Rattle.std.specs.Prelude.{Ok, Err}

-- ---- demand 3 (docs/CONTRACTS.md): "One engine runs both ways, under a schedule and under the turned schedule, on any four words."

abbrev engine_under : ℕ → ℕ → Words ℕ → ℕ → ℕ → ℕ
engine_under b r s t p = engine_word qarma64 b r (cut_numbers qarma64 (numbers_of s)) t p

module _ (b r : ℕ) (box : b ≤ 2) (s : Words ℕ) (t p : ℕ) (h : p < 2 ^ 64) where
  -- the engine under the turned schedule undoes the engine under the first
  pub turned_undoes : engine_under b r (turned_words s) t (engine_under b r s t p) ≡ p
  turned_undoes = every.turned_undoes lawful64 b r box (numbers_of s) t p h

  -- and the other way round
  pub undoes_turned : engine_under b r s t (engine_under b r (turned_words s) t p) ≡ p
  undoes_turned = every.undoes_turned lawful64 b r box (numbers_of s) t p h

-- turning twice gives the first schedule back
pub turned_words_twice : (s : Words ℕ) → Four qarma64 (numbers_of s) → turned_words (turned_words s) ≡ s
turned_words_twice s h = ap words_of (every.turned_numbers_twice lawful64 (numbers_of s) h)

-- ---- demand 2 (docs/CONTRACTS.md): "three boxes, 3 to 8 rounds, every key, tweak and block"

-- within the limits a block call answers the engine's word
pub called_within : (b r : ℕ) (s : Schedule) (t p : ℕ) → b ≤ 2 → 3 ≤ r → r ≤ 8 → Ok (engine_word qarma64 b r s t p) ≡ block_call b r s t p
unfolding every_block_call
called_within b r s t p hb lo hi = within qarma64 b r _ _ hb lo hi

-- and outside them refusal 1
module _ (b r : ℕ) (s : Schedule) (t p : ℕ) where
  pub refused_box : 2 < b → Err Settings ≡ block_call b r s t p
  unfolding every_block_call
  refused_box hb = outside_box qarma64 b r _ _ hb

  pub refused_few : b ≤ 2 → r < 3 → Err Settings ≡ block_call b r s t p
  unfolding every_block_call
  refused_few hb lo = outside_few qarma64 b r _ _ hb lo

  pub refused_many : b ≤ 2 → 3 ≤ r → 8 < r → Err Settings ≡ block_call b r s t p
  unfolding every_block_call
  refused_many hb lo hi = outside_many qarma64 b r _ _ hb lo hi

-- deciphering undoes enciphering
pub deciphered : (b r w0 k0 t p : ℕ) → b ≤ 2 → 3 ≤ r → r ≤ 8 → p < 2 ^ 64
    → (x : ℕ) → encipher_call b r w0 k0 t p ≡ Ok x → decipher_call b r w0 k0 t x ≡ Ok p
deciphered b r w0 k0 t p hb lo hi h x e =
    let s : Schedule = key_schedule qarma64 w0 k0 in
    let same : Ok x ≡ Ok (engine_word qarma64 b r s t p) = sym e ∙ sym (called_within b r s t p hb lo hi) in
    let made : x ≡ engine_word qarma64 b r s t p = cc in
    sym (called_within b r (turned qarma64 s) t x hb lo hi)
    ∙ ap Ok (ap (engine_word qarma64 b r (turned qarma64 s) t) made ∙ word_undone lawful64 b r hb (key_below qarma64 w0 k0) t h)

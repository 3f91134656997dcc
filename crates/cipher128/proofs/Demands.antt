-- Demands 2 and 3 for QARMA-128, read off from those of every lawful cipher: on the words that the calls take.
use mathlib.Core.Path.{◌≡◌, sym, ap, ◌∙◌}
use Prim.Native.Nat.{ℕ, ◌^◌, ◌<◌, ◌≤◌}
use Rattle.refusals.specs.declared.Refusal.TheVariants.{Settings}
use Rattle.cells128.specs.Qarma128.{qarma128}
use Rattle.cells128.specs.Halves.{whole, halves}
use Rattle.cells128.specs.declared.Pair.{Pair}
use Rattle.cells128.proofs.Lawful128.{lawful128}
use Rattle.cells128.proofs.Halves.{whole_halves, halves_whole, whole_lt}
use Rattle.cipher.specs.Engine.{key_schedule, turned}
use Rattle.cipher.specs.Numbers.{Numbers, cut_numbers, turned_numbers, engine_word}
use Rattle.cipher.specs.declared.Schedule.{Schedule}
use Rattle.cipher.proofs.Demands.{key_below, word_undone, within, outside_box, outside_few, outside_many}
use Rattle.cipher.specs.Numbers.{block_call as every_block_call}
use Rattle.cipher.proofs.Demands as every
use Rattle.cipher128.specs.Words.{numbers_of, words_of, turned_words, block_call, encipher_call, decipher_call}
use Rattle.cipher.specs.declared.Words.{Words}
use Rattle.std.specs.Prelude.{Ok, Err}

-- ---- words and their halves

-- two numbers of 64 bits, and four words of such
pub record Both (p : Pair) : Type 0 where
  pub high : p.high < 2 ^ 64
  pub low : p.low < 2 ^ 64

pub record Four (s : Words Pair) : Type 0 where
  pub w0 : Both s.w0
  pub w1 : Both s.w1
  pub k0 : Both s.k0
  pub k1 : Both s.k1

numbers_words : (n : Numbers) → numbers_of (words_of n) ≡ n
numbers_words n = λ i. record { w0 = whole_halves n.w0 i; w1 = whole_halves n.w1 i; k0 = whole_halves n.k0 i; k1 = whole_halves n.k1 i }

words_numbers : (s : Words Pair) → Four s → words_of (numbers_of s) ≡ s
words_numbers s h =
    λ i. record {
      w0 = halves_whole s.w0 h.w0.low i;
      w1 = halves_whole s.w1 h.w1.low i;
      k0 = halves_whole s.k0 h.k0.low i;
      k1 = halves_whole s.k1 h.k1.low i;
    }

fits : (p : Pair) → Both p → whole p < 2 ^ 128
fits p h = whole_lt p h.high h.low

four : (s : Words Pair) → Four s → every.Four qarma128 (numbers_of s)
four s h = record { w0 = fits s.w0 h.w0; w1 = fits s.w1 h.w1; k0 = fits s.k0 h.k0; k1 = fits s.k1 h.k1 }

-- ---- demand 3 (docs/CONTRACTS.md): "One engine runs both ways, under a schedule and under the turned schedule, on any four words."

-- the engine on values of two numbers each
abbrev engine_on : ℕ → ℕ → Schedule → Pair → Pair → Pair
engine_on b r u t p = halves (engine_word qarma128 b r u (whole t) (whole p))

abbrev engine_under : ℕ → ℕ → Words Pair → Pair → Pair → Pair
engine_under b r s t p = engine_on b r (cut_numbers qarma128 (numbers_of s)) t p

-- one engine after another, where the second undoes the first
undone_by : (b r : ℕ) (u v : Schedule) (t p : Pair) → p.low < 2 ^ 64 → engine_word qarma128 b r v (whole t) (engine_word qarma128 b r u (whole t) (whole p)) ≡ whole p
    → engine_on b r v t (engine_on b r u t p) ≡ p
undone_by b r u v t p h e =
    ap (λ (n : ℕ). halves (engine_word qarma128 b r v (whole t) n)) (whole_halves (engine_word qarma128 b r u (whole t) (whole p))) ∙ ap halves e ∙ halves_whole p h

module _ (b r : ℕ) (box : b ≤ 2) (s : Words Pair) (t p : Pair) (h : Both p) where
  abbrev n : Numbers
  n = numbers_of s

  -- the schedule of the turned words
  same : cut_numbers qarma128 (numbers_of (turned_words s)) ≡ cut_numbers qarma128 (turned_numbers qarma128 n)
  same = ap (cut_numbers qarma128) (numbers_words (turned_numbers qarma128 n))

  -- the engine under the turned schedule undoes the engine under the first
  pub turned_undoes : engine_under b r (turned_words s) t (engine_under b r s t p) ≡ p
  turned_undoes =
      ap (λ (u : Schedule). engine_on b r u t (engine_under b r s t p)) same
      ∙ undone_by b r (cut_numbers qarma128 n) (cut_numbers qarma128 (turned_numbers qarma128 n)) t p h.low (every.turned_undoes lawful128 b r box n (whole t) (whole p) (fits p h))

  -- and the other way round
  pub undoes_turned : engine_under b r s t (engine_under b r (turned_words s) t p) ≡ p
  undoes_turned =
      ap (λ (u : Schedule). engine_under b r s t (engine_on b r u t p)) same
      ∙ undone_by b r (cut_numbers qarma128 (turned_numbers qarma128 n)) (cut_numbers qarma128 n) t p h.low (every.undoes_turned lawful128 b r box n (whole t) (whole p) (fits p h))

-- turning twice gives the first schedule back
pub turned_words_twice : (s : Words Pair) → Four s → turned_words (turned_words s) ≡ s
turned_words_twice s h =
    ap (λ (n : Numbers). words_of (turned_numbers qarma128 n)) (numbers_words (turned_numbers qarma128 (numbers_of s)))
    ∙ ap words_of (every.turned_numbers_twice lawful128 (numbers_of s) (four s h))
    ∙ words_numbers s h

-- ---- demand 2 (docs/CONTRACTS.md): "three boxes, 3 to 11 rounds, every key, tweak and block"

-- within the limits a block call answers the engine's word
pub called_within : (b r : ℕ) (s : Schedule) (t p : Pair) → b ≤ 2 → 3 ≤ r → r ≤ 11 → Ok (engine_on b r s t p) ≡ block_call b r s t p
unfolding every_block_call
called_within b r s t p hb lo hi = within qarma128 b r _ _ hb lo hi

-- and outside them refusal 1
module _ (b r : ℕ) (s : Schedule) (t p : Pair) where
  pub refused_box : 2 < b → Err Settings ≡ block_call b r s t p
  unfolding every_block_call
  refused_box hb = outside_box qarma128 b r _ _ hb

  pub refused_few : b ≤ 2 → r < 3 → Err Settings ≡ block_call b r s t p
  unfolding every_block_call
  refused_few hb lo = outside_few qarma128 b r _ _ hb lo

  pub refused_many : b ≤ 2 → 3 ≤ r → 11 < r → Err Settings ≡ block_call b r s t p
  unfolding every_block_call
  refused_many hb lo hi = outside_many qarma128 b r _ _ hb lo hi

-- deciphering undoes enciphering
pub deciphered : (b r : ℕ) (w0 k0 t p : Pair) → b ≤ 2 → 3 ≤ r → r ≤ 11 → Both p
    → (x : Pair) → encipher_call b r w0 k0 t p ≡ Ok x → decipher_call b r w0 k0 t x ≡ Ok p
deciphered b r w0 k0 t p hb lo hi h x e =
    let s : Schedule = key_schedule qarma128 (whole w0) (whole k0) in
    let same : Ok x ≡ Ok (engine_on b r s t p) = sym e ∙ sym (called_within b r s t p hb lo hi) in
    let made : x ≡ engine_on b r s t p = cc in
    sym (called_within b r (turned qarma128 s) t x hb lo hi)
    ∙ ap Ok
    (ap (engine_on b r (turned qarma128 s) t) made ∙ undone_by b r s (turned qarma128 s) t p h.low (word_undone lawful128 b r hb (key_below qarma128 (whole w0) (whole k0)) (whole t) (fits p h)))

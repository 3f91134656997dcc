-- Demand 1 for the calls: which refusals each can give, and that a refused call leaves every byte as it found it.
use Rattle.refusals.specs.declared.Refusal.{Refusal}
use Rattle.std.specs.Prelude.{Result, Ok, Err}
use mathlib.Core.List.{List, [], ◌∷◌}
use mathlib.Core.Path.{refl}
use Prim.Native.Nat.{ℕ}
use Rattle.refusals.specs.declared.Refusal.TheVariants.{Settings, Line}
use Rattle.refusals.proofs.Answers.{Can, can_refused}
use Rattle.cells64.specs.Qarma64.{qarma64}
use Rattle.cells128.specs.Qarma128.{qarma128}
use Rattle.cells128.specs.declared.Pair.{Pair}
use Rattle.cipher.specs.Numbers.{block_call as block_call_of}
use Rattle.cipher.proofs.Demands.{either}
use Rattle.cipher64.specs.Words.{block_call}
use Rattle.cipher128.specs.Words.{block_call as block_call128}
use Rattle.cipher.specs.declared.Schedule.{Schedule}
use Rattle.line.specs.Line.{Reading}
use Rattle.kkurimyeot.specs.Calls.{words_given, block_given, block_given128, reading_given}
use Rattle.kkurimyeot.proofs.Returns.{words_can}

-- `kk_schedule`, `kk_turn`, `kk128_schedule` and `kk128_turn`
pub schedule_can : (ws out : List ℕ) → Can (5 ∷ []) out (words_given ws out)
schedule_can ws out = words_can ws out refl

-- "Block calls can give 1 .. and 5 can come, after 1": `kk_engine`, `kk_encipher`, `kk_decipher`, and those of the 128-bit cipher
pub block_can : (b r : ℕ) (s : Schedule) (t p : ℕ) (out : List ℕ) → Can (1 ∷ 5 ∷ []) out (block_given (block_call b r s t p) out)
unfolding block_call_of
block_can b r s t p out = either qarma64 b r _ _ (λ (x : Result ℕ Refusal). Can (1 ∷ 5 ∷ []) out (block_given x out)) (words_can _ out refl) (can_refused Settings refl)

pub block128_can : (b r : ℕ) (s : Schedule) (t p : Pair) (out : List ℕ) → Can (1 ∷ 5 ∷ []) out (block_given128 (block_call128 b r s t p) out)
unfolding block_call_of
block128_can b r s t p out = either qarma128 b r _ _ (λ (x : Result Pair Refusal). Can (1 ∷ 5 ∷ []) out (block_given128 x out)) (words_can _ out refl) (can_refused Settings refl)

-- `kk_read_line`
pub reading_can : (r : Reading) (out : List ℕ) → Can (7 ∷ 5 ∷ []) out (reading_given r out)
reading_can (Ok f) out = words_can _ out refl
reading_can (Err e) out = can_refused (Line e.place) refl

-- Document 000, appendix A.1: the definition of the engine gives its nine vectors, and under the turned schedule their plaintext.
use mathlib.Core.List.{List, [], ◌∷◌, map}
use mathlib.Core.Path.{◌≡◌, refl}
use Prim.Native.Nat.{ℕ}
use Rattle.cells.specs.Cells.{cut, joined, added, looked, picked, mixed_by, on_seven}
use Rattle.words.specs.Lists.{upto}
use Rattle.cells64.specs.Qarma64.{qarma64}
use Rattle.cipher.specs.Engine.{key_schedule, turned, forward, short_forward, backward, short_backward, forward_word, backward_word, forward_step, centre, middle, backward_step, engine}
use Rattle.cipher.specs.Numbers.{engine_word}
use Rattle.cipher.specs.declared.Schedule.{Schedule}

-- box number, rounds and ciphertext
abbrev Vector : Type 0
Vector = ℕ × ℕ × ℕ

abbrev vectors : List Vector
vectors =
    (0, 5, 0x3EE99A6C82AF0C38)
    ∷ (1, 5, 0x544B0AB95BDA7C3A)
    ∷ (2, 5, 0xC003B93999B33765)
    ∷ (0, 6, 0x9F5C41EC525603C9)
    ∷ (1, 6, 0xA512DD1E4E3EC582)
    ∷ (2, 6, 0x270A787275C48D10)
    ∷ (0, 7, 0xBCAF6C89DE930765)
    ∷ (1, 7, 0xEDF67FF370A483F2)
    ∷ (2, 7, 0x5C06A7501B63B2FD)
    ∷ []

abbrev key : Schedule
key = key_schedule qarma64 0x84BE85CE9804E94B 0xEC2802D4E0A488E9

abbrev plain : ℕ
plain = 0xFB623599DA6E8127

-- a vector's box and rounds, under a schedule and the tweak of the appendix
abbrev ran : Schedule → Vector → ℕ → ℕ
ran s v p = engine_word qarma64 v.0 v.1 s 0x477D469DEC0B8762 p

-- a vector enciphered, and deciphered
abbrev gives : Vector → ℕ × ℕ
gives v = (ran key v plain, ran (turned qarma64 key) v v.2)

abbrev says : Vector → ℕ × ℕ
says v = (v.2, plain)

pub nine : map gives vectors ≡ map says vectors
unfolding upto cut joined added looked picked mixed_by on_seven turned forward short_forward backward short_backward forward_word backward_word forward_step centre middle backward_step engine
nine = refl

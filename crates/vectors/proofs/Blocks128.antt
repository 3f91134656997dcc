-- QARMA-128 on whole blocks: the definition of the engine gives what the second program gives for them, and under the turned schedule the block. No vectors of the paper: each value is made of two of appendix A.1.
use mathlib.Core.List.{List, [], ◌∷◌, map}
use mathlib.Core.Path.{◌≡◌, refl}
use Prim.Native.Nat.{ℕ}
use Rattle.cells.specs.Cells.{cut, joined, added, looked, picked, mixed_by, on_seven}
use Rattle.words.specs.Lists.{upto}
use Rattle.cells128.specs.Qarma128.{qarma128}
use Rattle.cipher.specs.Engine.{key_schedule, turned, forward, short_forward, backward, short_backward, forward_word, backward_word, forward_step, centre, middle, backward_step, engine}
use Rattle.cipher.specs.Numbers.{engine_word}
use Rattle.cipher.specs.declared.Schedule.{Schedule}

-- box number, rounds and ciphertext
abbrev Example : Type 0
Example = ℕ × ℕ × ℕ

abbrev examples : List Example
examples =
    (1, 3, 0xFF6744A9CE0C997830311D6F68F50942)
    ∷ (0, 11, 0xE9732F0261489CCC12925F636791C1CB)
    ∷ (1, 11, 0xAC52BE9C630001164E977E9173C82C1B)
    ∷ (2, 11, 0x7D180D1E1AB038659AA211D5BE9668A5)
    ∷ []

abbrev key : Schedule
key = key_schedule qarma128 0x84BE85CE9804E94BEC2802D4E0A488E9 0xEC2802D4E0A488E984BE85CE9804E94B

abbrev plain : ℕ
plain = 0xFB623599DA6E8127477D469DEC0B8762

-- an example's box and rounds, under a schedule and one tweak
abbrev ran : Schedule → Example → ℕ → ℕ
ran s v p = engine_word qarma128 v.0 v.1 s 0x477D469DEC0B8762FB623599DA6E8127 p

-- an example enciphered, and deciphered
abbrev gives : Example → ℕ × ℕ
gives v = (ran key v plain, ran (turned qarma128 key) v v.2)

abbrev says : Example → ℕ × ℕ
says v = (v.2, plain)

pub four : map gives examples ≡ map says examples
unfolding upto cut joined added looked picked mixed_by on_seven turned forward short_forward backward short_backward forward_word backward_word forward_step centre middle backward_step engine
four = refl

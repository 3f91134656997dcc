-- Document 01, "What a refused caller gets": the number and the extra answer of each refusal. Later requests add their refusals here.
use Rattle.std.specs.Prelude.{List, ◌++◌, Result, Ok, Err, ℕ, ◌+◌, ◌*◌, ◌^◌, length, drop}
use Rattle.words.specs.Cases.{if_le}
use Rattle.refusals.specs.declared.Refusal.{Refusal}
use Rattle.refusals.specs.declared.Refusal.TheVariants.{Settings, Length, Serial, SealedSize, Room, Disagrees, Line, RepeatedSerial, SerialListFull, TooLarge}

-- "No."
abbrev pub number_of : Refusal → ℕ
-- "box or rounds outside the sizes"
number_of Settings = 1
-- "message or label longer than allowed"
number_of Length = 2
-- "serial above 2^44 - 1"
number_of Serial = 3
-- "sealed bytes are not 8 more than the message length rounded up to 8"
number_of SealedSize = 4
-- "output shorter than the answer needs"
number_of Room = 5
-- "tag or fill disagrees"
number_of Disagrees = 6
-- "not a frame line"
number_of (Line p) = 7
-- Request 1 of document 02: "8 repeated serial, 9 serial list full"
number_of RepeatedSerial = 8
number_of SerialListFull = 9
-- Request 5: "11 file above either limit"
number_of TooLarge = 11

-- "Extra answer": the place, and 0 for "none"
abbrev pub place_of : Refusal → ℕ
place_of Settings = 0
place_of Length = 0
place_of Serial = 0
place_of SealedSize = 0
place_of Room = 0
place_of Disagrees = 0
place_of (Line p) = p
place_of RepeatedSerial = 0
place_of SerialListFull = 0
place_of TooLarge = 0

-- what a call answers that writes to lent memory: how many bytes it wrote, or a refusal
abbrev pub Answer : Type 0
Answer = Result ℕ Refusal

-- c-interface.md, "The returned number": bits 63..56 the refusal's number or 0; bits 31..0 how many bytes were written, or the place, or 0
abbrev pub returned_of : Answer → ℕ
returned_of (Ok n) = n
returned_of (Err r) = number_of r * 2 ^ 56 + place_of r

-- An answer goes with the bytes that stand in the lent memory then; out has those that stood there before.

-- refusal 5, "output shorter than the answer needs", for an answer of n bytes; else what comes after it
abbrev pub room_for : ℕ → List ℕ → Answer × List ℕ → Answer × List ℕ
room_for n out x = if_le n (length out) x (Err Room, out)

-- Document 01, "Sealing and opening": when it succeeds, a call "answers how many bytes it wrote; every byte past them stays"
abbrev pub written : List ℕ → List ℕ → Answer × List ℕ
written bytes out = (Ok (length bytes), bytes ++ drop (length bytes) out)

-- some bytes written, or refusal 5
unfoldable pub giving : List ℕ → List ℕ → Answer × List ℕ
giving bytes out = room_for (length bytes) out (written bytes out)

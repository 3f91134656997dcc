-- Document 01, "Sealing and opening": the tag, the sealed bytes, and what sealing and opening answer and leave.
use Rattle.std.specs.Prelude.{Bool, true, false, ◌≡◌, List, ◌++◌, ℕ, ◌+◌, ◌-◌, ◌*◌, ◌/◌, ◌%◌, ◌^◌, ◌≤◌, eqb, length, take, drop, Err}
use Rattle.words.specs.Cases.{if_le, if_yes}
use Rattle.words.specs.Digits.{◌⊕◌, word, digits, Digits, laid}
use Rattle.refusals.specs.Refusals.{Answer, room_for, written, giving}
use Rattle.refusals.specs.declared.Refusal.TheVariants.{Length, Serial, SealedSize, Disagrees}
use Rattle.words.specs.Lists.{sum}
use Rattle.cells64.specs.Qarma64.{qarma64}
use Rattle.cipher.specs.Engine.{key_schedule, turned}
use Rattle.cipher.specs.Numbers.{engine_word}
use Rattle.cipher.specs.declared.Schedule.{Schedule}
use Rattle.frame.specs.Blocks.{blocks, part, fill_of, filling, block, tweak, purpose, opened_purpose, tag_purpose}

-- Document 01, "Sizes": "Frames use box 1 and r = 7." The label is called a here, the sealed bytes c, and n is the length of the message.
abbrev pub frame_engine : Schedule → ℕ → ℕ → ℕ
frame_engine s t p = engine_word qarma64 1 7 s t p

-- "The index is the block's number from 0"; "Each message block is enciphered under its tweak.": block i of some bytes, by the purpose of a whole one
abbrev pub sealed_block : Schedule → ℕ → ℕ → List ℕ → ℕ → ℕ
sealed_block s whole serial x i = frame_engine s (tweak (purpose whole (filling (part x i)).added) serial i) (block x i)

-- "the sum of all enciphered label blocks (zero if none)"
abbrev pub label_sum : Schedule → ℕ → List ℕ → ℕ
label_sum s serial a = sum (blocks (length a)) (sealed_block s 2 serial a)

-- "For the tag, the engine runs on the sum of all message blocks alone ..; to its answer the sum of all enciphered label blocks .. is then added.";
-- "for the tag" the index is "the number of message blocks"
abbrev pub tag_of : Schedule → ℕ → List ℕ → ℕ → ℕ → ℕ
tag_of s serial a n message_sum = frame_engine s (tweak (tag_purpose n) serial (blocks n)) message_sum ⊕ label_sum s serial a

-- "The sealed bytes are the enciphered blocks and then the 8 tag bytes."
abbrev pub sealed_size : ℕ → ℕ
sealed_size n = blocks n * 8 + 8

unfoldable pub sealed_bytes : Schedule → ℕ → List ℕ → List ℕ → List ℕ
sealed_bytes s serial a m =
    laid (blocks (length m)) (sealed_block s 0 serial m)
    ++ digits 8 8 (tag_of s serial a (length m) (sum (blocks (length m)) (block m)))

-- Document 01, "Sizes": "message 0 to 1,024 bytes; label (the associated data) 0 to 32 bytes; serial 0 to 2^44 - 1"
abbrev pub message_max : ℕ
message_max = 1024

abbrev pub label_max : ℕ
label_max = 32

abbrev pub serial_max : ℕ
serial_max = 2 ^ 44 - 1

-- refusals 2 and 3 of a message of n bytes, or what comes after them
unfoldable pub limited : ℕ → List ℕ → ℕ → List ℕ → Answer × List ℕ → Answer × List ℕ
limited serial a n out x =
    if_le n message_max
    (if_le (length a) label_max
    (if_le serial serial_max
    x
    (Err Serial, out))
    (Err Length, out))
    (Err Length, out)

-- Document 01, "What a refused caller gets": "Sealing can give 2, 3, 5", in this order; else it writes the sealed bytes
unfoldable pub sealing : ℕ → ℕ → ℕ → List ℕ → List ℕ → List ℕ → Answer × List ℕ
sealing w0 k0 serial a m out = limited serial a (length m) out (giving (sealed_bytes (key_schedule qarma64 w0 k0) serial a m) out)

-- "Opening is told the message length.": block i of the sealed bytes c of a message of n bytes, under the turned schedule u
abbrev pub opened_block : Schedule → ℕ → ℕ → List ℕ → ℕ → ℕ
opened_block u serial n c i = frame_engine u (tweak (opened_purpose n i) serial i) (word 8 (part c i))

-- "the first bytes up to the message length"
abbrev pub opened_message : Schedule → ℕ → ℕ → List ℕ → List ℕ
opened_message u serial n c = take n (laid (blocks n) (opened_block u serial n c))

-- "for a filled last block, the bytes past the length are exactly 80 and then 00s": the last block w of n bytes
unfoldable pub fill_right : ℕ → ℕ → Bool
fill_right n w = if_le (n % 8) 0 true (eqb (word 8 (drop (n % 8) (digits 8 8 w))) (word 8 (fill_of (n % 8))))

-- "It accepts when the tag agrees and, for a filled last block, .."
unfoldable pub accepted : Schedule → ℕ → List ℕ → ℕ → List ℕ → Bool
accepted s serial a n c =
    if_yes (fill_right n (opened_block (turned qarma64 s) serial n c (n / 8)))
    (eqb (tag_of s serial a n (sum (blocks n) (opened_block (turned qarma64 s) serial n c))) (word 8 (part c (blocks n))))
    false

-- Document 01, "What a refused caller gets": "opening 2 to 6", in this order; else it writes the message
unfoldable pub opening : ℕ → ℕ → ℕ → ℕ → List ℕ → List ℕ → List ℕ → Answer × List ℕ
opening w0 k0 serial n a c out =
    limited serial a n out
    (if_yes (eqb (length c) (sealed_size n))
    (room_for n out
    (if_yes (accepted (key_schedule qarma64 w0 k0) serial a n c)
    (written (opened_message (turned qarma64 (key_schedule qarma64 w0 k0)) serial n c) out)
    (Err Disagrees, out)))
    (Err SealedSize, out))

-- Demand 2 for frames (docs/CONTRACTS.md): inputs inside the limits
pub record Within (number : ℕ) (a : List ℕ) (n : ℕ) : Type 0 where
  pub message : n ≤ message_max
  pub label : length a ≤ label_max
  pub serial : number ≤ serial_max

-- Demand 2 (docs/CONTRACTS.md): sealing some message of the stated length under that key, serial and label produces it: a message of n bytes whose sealed bytes are c
pub record SealedFrom (s : Schedule) (serial : ℕ) (a : List ℕ) (n : ℕ) (c : List ℕ) : Type 0 where
  pub message : List ℕ
  pub bytes : Digits 8 message
  pub size : length message ≡ n
  pub sealed : sealed_bytes s serial a message ≡ c

-- Document 01, "The frame line" and "What a refused caller gets": what writing and opening a line answer, and what they leave.
use Rattle.std.specs.Prelude.{ℕ, ◌≡◌, List, length, Ok, Err}
use Rattle.words.specs.Digits.{Digits}
use Rattle.refusals.specs.Refusals.{Answer, giving}
use Rattle.cells64.specs.Qarma64.{qarma64}
use Rattle.cipher.specs.Engine.{key_schedule}
use Rattle.frame.specs.Frames.{limited, sealed_size, sealed_bytes, opening, Within}
use Rattle.line.specs.Line.{Frame, line_of, Reading, refused_at}
use Rattle.line.specs.Reader.{bytes_at, reading}

-- a frame with a message of n bytes
abbrev pub frame_of : ℕ → List ℕ → ℕ → List ℕ → Frame
frame_of serial a n c = record { serial = serial; label = a; message_length = n; sealed = c }

-- "Writing a line seals first and can give 2, 3, 5, with room reckoned for the line."
unfoldable pub writing : ℕ → ℕ → ℕ → List ℕ → List ℕ → List ℕ → Answer × List ℕ
writing w0 k0 serial a m out = limited serial a (length m) out (giving (line_of (frame_of serial a (length m) (sealed_bytes (key_schedule qarma64 w0 k0) serial a m))) out)

-- "Opening a line gives 7, or else passes on what opening gives.": over the computed reading. `passes_on` and `not_a_line` (`proofs/Demands.antt`) say it of good lines and of places.
abbrev pub opening_as : ℕ → ℕ → List ℕ → Reading → List ℕ → Answer × List ℕ
opening_as w0 k0 s (Ok f) out = opening w0 k0 f.serial f.message_length (bytes_at s f.label_place f.label_length) (bytes_at s f.sealed_place (sealed_size f.message_length)) out
opening_as w0 k0 s (Err e) out = (refused_at e.place, out)

unfoldable pub opening_line : ℕ → ℕ → List ℕ → List ℕ → Answer × List ℕ
opening_line w0 k0 s out = opening_as w0 k0 s (reading s) out

-- Demand 2 for a line: writing some message under the key (w0, k0) gives it
pub record WrittenFrom (w0 k0 : ℕ) (s : List ℕ) : Type 0 where
  pub serial : ℕ
  pub label : List ℕ
  pub message : List ℕ
  pub label_bytes : Digits 8 label
  pub message_bytes : Digits 8 message
  pub within : Within serial label (length message)
  pub line : s ≡ line_of (frame_of serial label (length message) (sealed_bytes (key_schedule qarma64 w0 k0) serial label message))

-- What contracts of private functions say. Not from the paper.
use Rattle.std.specs.Prelude.{ℕ, ◌+◌, ◌*◌, ◌^◌, ◌≤◌, ◌<◌, List}
use Rattle.frame.specs.Frames.{sealed_size}
use Rattle.line.specs.Reader.{number_at}
use Rattle.line.specs.declared.Fields.{Fields}

-- how many bytes the line of a frame with a label of l bytes and k sealed ones has: two digits a byte, twenty before them, and the 0A
abbrev pub line_size : ℕ → ℕ → ℕ
line_size l k = 20 + 2 * (l + k) + 1

-- the fields are inside the limits, and label and sealed bytes stand as digits at their places in s
pub record FieldsRead (s : List ℕ) (f : Fields) : Type 0 where
  pub message_fits : f.message_length ≤ 1024
  pub label_fits : f.label_length ≤ 32
  pub label_at : f.label_place ≤ 2 ^ 16
  pub sealed_at : f.sealed_place ≤ 2 ^ 16
  pub label_bytes : (i : ℕ) → i < f.label_length → number_at s (f.label_place + 2 * i) 2 < 256
  pub sealed_are_bytes : (i : ℕ) → i < sealed_size f.message_length → number_at s (f.sealed_place + 2 * i) 2 < 256

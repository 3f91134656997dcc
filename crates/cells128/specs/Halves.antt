-- c-interface.md: "A value of 128 bits is two numbers, the high one first".
use Rattle.std.specs.Prelude.{ℕ, ◌+◌, ◌*◌, ◌/◌, ◌%◌, ◌^◌}
use Rattle.cells128.specs.declared.Pair.{Pair}

-- the number of two halves, and the halves of a number
abbrev pub whole : Pair → ℕ
whole p = p.high * 2 ^ 64 + p.low

unfoldable pub halves : ℕ → Pair
halves w = record { high = w / 2 ^ 64; low = w % 2 ^ 64 }

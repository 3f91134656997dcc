-- `line::bytes_at` meets its contract. The invariant: the first i bytes are read.
use mathlib.Core.Path.{◌≡◌}
use Prim.Native.Nat.{◌*◌, ◌+◌}
use lib.ListN.{take}
use Rattle.words.specs.Lists.{upto}
use Rattle.line.specs.Reader.{number_at}
use Rattle.line.proofs.bytes_at.Given as goal

abbrev pub invariant-loop-i : goal.invariant-loop-i
invariant-loop-i l = take l.i l.out ≡ upto l.i (λ k. number_at l.s (l.a + 2 * k) 2)

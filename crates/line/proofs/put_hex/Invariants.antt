-- `line::put_hex` meets its contract. The invariant: the digits of i bytes are written, and the rest is as it was.
use mathlib.Core.Path.{◌≡◌}
use mathlib.Core.List.{◌++◌}
use Prim.Native.Nat.{◌*◌}
use lib.ListN.{take, drop}
use Rattle.line.specs.Line.{hex}
use Rattle.line.proofs.put_hex.Given as goal

abbrev pub invariant-loop-i : goal.invariant-loop-i
invariant-loop-i l = l.out ≡ hex (take l.i l.bytes) ++ drop (2 * l.i) l.initial.out

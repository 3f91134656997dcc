-- `line::put_digits` meets its contract. The invariant: the digits of x that are left, then what is written, are the whole.
use mathlib.Core.Path.{◌≡◌}
use mathlib.Core.List.{◌++◌}
use lib.ListN.{length, drop}
use Rattle.line.specs.Line.{hex_digits}
use Rattle.line.proofs.put_digits.Given as goal

abbrev pub invariant-loop-i : goal.invariant-loop-i
invariant-loop-i l = hex_digits l.i l.x ++ drop l.i l.out ≡ hex_digits (length l.initial.out) l.n

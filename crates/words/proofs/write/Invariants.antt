-- `words::write` meets its contract. The invariant: the digits of x that are left, then what is written, are the whole.
use mathlib.Core.Path.{◌≡◌}
use mathlib.Core.List.{◌++◌}
use lib.ListN.{length, drop}
use Rattle.words.specs.Digits.{digits}
use Rattle.words.proofs.write.Given as goal

abbrev pub invariant-loop-i : goal.invariant-loop-i
invariant-loop-i l = digits l.m l.i l.x ++ drop l.i l.out ≡ digits l.m (length l.initial.out) l.w

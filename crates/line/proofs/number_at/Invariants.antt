-- `line::number_at` meets its contract: after i turns v is the number of the first i digits, and no greater than that of all.
use mathlib.Core.Path.{◌≡◌}
use Rattle.line.specs.Reader.{number_at}
use Rattle.line.proofs.number_at.Given as goal

abbrev pub invariant-loop-i : goal.invariant-loop-i
invariant-loop-i l = (l.v ≡ number_at l.s l.a l.i)

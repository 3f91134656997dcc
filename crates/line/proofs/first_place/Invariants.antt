-- `line::first_place` meets its contract: the lengths stand in the first twenty bytes, and where these stand, the place of the 0A is known. Assumes nothing.
use Prim.Native.Nat.{◌≤◌}
use mathlib.Core.Path.{◌≡◌}
use Rattle.line.specs.Reader.{place, end_of}
use Rattle.line.proofs.first_place.Given as goal

abbrev pub invariant-loop-i : goal.invariant-loop-i
invariant-loop-i l = (l.i ≤ place l.s) × (l.e ≡ end_of l.s)

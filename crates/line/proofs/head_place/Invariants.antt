-- `line::head_place` meets its contract: each turn shows that the place is farther on. Assumes nothing.
use Prim.Native.Nat.{◌≤◌}
use Rattle.line.specs.Reader.{place}
use Rattle.line.proofs.head_place.Given as goal

abbrev pub invariant-loop-k : goal.invariant-loop-k
invariant-loop-k l = l.k ≤ place l.s

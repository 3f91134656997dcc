-- `changes::walk` meets its contract: what is written and the report of the handles that are left are the whole report.
use Prim.Native.Nat.{◌+◌, ◌-◌}
use lib.ListN.{length}
use Rattle.changes.proofs.Walks.{Walked}
use Rattle.changes.proofs.walk.Given as goal

abbrev pub invariant-loop-i : goal.invariant-loop-i
invariant-loop-i l = Walked l.first l.second l.a l.b l.initial.out l.out l.i l.j l.n

abbrev pub decreases-loop-i : goal.decreases-loop-i
decreases-loop-i l = length l.a + length l.b - (l.i + l.j)

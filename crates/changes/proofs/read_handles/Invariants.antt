-- `changes::read_handles` meets its contract: the handles in their places and those of the lines that are left are all.
use Rattle.changes.proofs.Handles.{HandlesTo}
use Rattle.changes.proofs.read_handles.Given as goal

abbrev pub invariant-loop-n : goal.invariant-loop-n
invariant-loop-n l = HandlesTo l.s l.handles l.at l.n-counter

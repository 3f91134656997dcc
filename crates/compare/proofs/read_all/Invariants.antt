-- `read_all` meets its contract: each read that goes on brings a byte, and none is put past the memory.
use Rattle.std.proofs.Common.{◌-◌, ◌≤◌, length}
use Rattle.compare.proofs.read_all.Given as goal

abbrev pub invariant-loop-done : goal.invariant-loop-done
invariant-loop-done g l = l.done ≤ length l.buf

abbrev pub decreases-loop-done : goal.decreases-loop-done
decreases-loop-done g l = length l.buf - l.done

-- `of_rows` meets its contract: the loop fills the sixteen cells.
use Prim.Native.Nat.{◌-◌, ◌/◌, ◌%◌}
use Rattle.cells.specs.Cells.{entry}
use Rattle.cells.proofs.Fill.{Filled}
use Rattle.cells.proofs.of_rows.Given as goal

abbrev pub invariant-loop-i : goal.invariant-loop-i
invariant-loop-i l = Filled 16 (λ k. entry l.r (k / 4) (k % 4)) l.out l.i

abbrev pub decreases-loop-i : goal.decreases-loop-i
decreases-loop-i l = 16 - l.i

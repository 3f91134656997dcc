-- `move_cells` meets its contract: the loop fills sixteen cells.
use Prim.Native.Nat.{◌-◌}
use Rattle.words.specs.Lists.{◌!◌}
use Rattle.cells.specs.Cells.{cell}
use Rattle.cells.specs.Workings.{bit_moved}
use Rattle.cells.proofs.Fill.{Filled}
use Rattle.cells128.specs.Workings.{way}
use Rattle.cells128.proofs.move_cells.Given as goal

abbrev pub invariant-loop-i : goal.invariant-loop-i
invariant-loop-i l = Filled 16 (λ k. bit_moved 8 2 (way (l.stepped ! k) (l.unstepped ! k)) (cell l.a k)) l.out l.i

abbrev pub decreases-loop-i : goal.decreases-loop-i
decreases-loop-i l = 16 - l.i

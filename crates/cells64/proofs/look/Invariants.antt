-- `look` meets its contract: the word chosen has the outputs of the box, and the loop fills sixteen cells from it.
use Prim.Native.Nat.{◌-◌}
use Rattle.words.specs.Lists.{◌!◌}
use Rattle.cells.specs.Cells.{cell}
use Rattle.cells64.specs.Workings.{nibbles}
use Rattle.cells.proofs.Fill.{Filled}
use Rattle.cells64.proofs.look.Given as goal

abbrev pub invariant-loop-i : goal.invariant-loop-i
invariant-loop-i l = Filled 16 (λ k. nibbles l.table ! cell l.a k) l.out l.i

abbrev pub decreases-loop-i : goal.decreases-loop-i
decreases-loop-i l = 16 - l.i

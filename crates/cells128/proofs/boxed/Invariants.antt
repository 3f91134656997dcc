-- `boxed` meets its contract: the loop fills sixteen cells from the box.
use Prim.Native.Nat.{◌-◌}
use Rattle.words.specs.Lists.{◌!◌}
use Rattle.cells.specs.Cells.{cell}
use Rattle.cells.proofs.Fill.{Filled}
use Rattle.cells128.specs.Qarma128.{qarma128}
use Rattle.cells128.proofs.boxed.Given as goal

abbrev pub invariant-loop-i : goal.invariant-loop-i
invariant-loop-i l = Filled 16 (λ k. qarma128.box l.number ! cell l.a k) l.out l.i

abbrev pub decreases-loop-i : goal.decreases-loop-i
decreases-loop-i l = 16 - l.i

-- `Cells::add` meets its contract: the loop fills the sixteen cells of the sum.
use Prim.Native.Nat.{◌-◌}
use Rattle.words.specs.Digits.{◌⊕◌}
use Rattle.cells.specs.Cells.{cell}
use Rattle.cells.proofs.Fill.{Filled}
use Rattle.cells.proofs.Cells.add.Given as goal

abbrev pub invariant-loop-i : goal.invariant-loop-i
invariant-loop-i l = Filled 16 (λ k. cell l.self k ⊕ cell l.other k) l.out l.i

abbrev pub decreases-loop-i : goal.decreases-loop-i
decreases-loop-i l = 16 - l.i

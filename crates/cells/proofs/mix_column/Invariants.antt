-- `mix_column` meets its contract: the loop fills the four rows.
use Prim.Native.Nat.{◌-◌}
use Rattle.words.specs.Lists.{◌!◌}
use Rattle.cells.specs.Cells.{row_sum}
use Rattle.cells.proofs.Fill.{Filled}
use Rattle.cells.proofs.mix_column.Given as goal

abbrev pub invariant-loop-x : goal.invariant-loop-x
invariant-loop-x g l = Filled 4 (row_sum g.W.Matrix.BITS g.W.Matrix.ENTRIES (λ j. l.column ! j)) l.out l.x

abbrev pub decreases-loop-x : goal.decreases-loop-x
decreases-loop-x g l = 4 - l.x

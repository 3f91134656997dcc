-- `Cells::add` meets its contract: the loop fills the sixteen cells of the sum.
use mathlib.Core.Path.{ap}
use mathlib.Core.List.{List}
use Prim.Native.Nat.{ℕ}
use Rattle.cells.specs.Cells.{added}
use Rattle.cells.proofs.Fill.{fills, whole}
use Rattle.cells.proofs.Cells.add.Goals as goal

pub loop-i-preserved : goal.loop-i-preserved
loop-i-preserved c = search fills

pub returns : goal.returns
unfolding added
returns c = ap (λ (l : List ℕ). record { at = l }) (whole c.loop-i.invariant c.loop-i-test.false)

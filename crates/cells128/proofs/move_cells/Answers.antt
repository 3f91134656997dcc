-- `move_cells` meets its contract: the loop fills sixteen cells.
use mathlib.Core.Path.{ap}
use mathlib.Core.List.{List}
use Prim.Native.Nat.{ℕ}
use Rattle.cells.proofs.Fill.{fills, whole}
use Rattle.cells128.specs.Workings.{moved_cells}
use Rattle.cells128.proofs.move_cells.Goals as goal

pub move_bits-requires : goal.move_bits-requires
unfolding moved_cells
move_bits-requires c = c.requires.all c.loop-i.i (search fills)

pub loop-i-preserved : goal.loop-i-preserved
loop-i-preserved c = search fills

pub returns : goal.returns
unfolding moved_cells
returns c = ap (λ (l : List ℕ). record { at = l }) (whole c.loop-i.invariant c.loop-i-test.false)

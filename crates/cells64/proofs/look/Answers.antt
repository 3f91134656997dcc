-- `look` meets its contract: the word chosen has the outputs of the box, and the loop fills sixteen cells from it.
use mathlib.Core.Path.{ap}
use mathlib.Core.List.{List}
use Prim.Native.Nat.{ℕ}
use Rattle.cells.specs.Cells.{looked}
use Rattle.cells.proofs.Fill.{fills, whole}
use Rattle.cells64.proofs.look.Goals as goal

-- each cell is below 16
pub look_up-requires : goal.look_up-requires
look_up-requires c = c.requires.all c.loop-i.i (search fills)

-- all sixteen are looked up in the box
pub returns : goal.returns
unfolding looked
returns c = rw (← c.box_word-table.ensures) (ap (λ (l : List ℕ). record { at = l }) (whole c.loop-i.invariant c.loop-i-test.false))

pub loop-i-preserved : goal.loop-i-preserved
loop-i-preserved c = search fills

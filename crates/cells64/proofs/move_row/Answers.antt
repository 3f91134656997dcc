-- `move_row` meets its contract: the loop fills the four cells.
use Rattle.cells.proofs.Fill.{fills, whole}
use Rattle.cells64.proofs.move_row.Goals as goal

pub returns : goal.returns
returns c = whole c.loop-y.invariant c.loop-y-test.false

pub loop-y-preserved : goal.loop-y-preserved
loop-y-preserved c = search fills

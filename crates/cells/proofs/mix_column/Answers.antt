-- `mix_column` meets its contract: the loop fills the four rows.
use Rattle.cells.proofs.Fill.{fills, whole}
use Rattle.cells.proofs.mix_column.Goals as goal

pub returns : goal.returns
returns g c = whole c.loop-x.invariant c.loop-x-test.false

pub loop-x-preserved : goal.loop-x-preserved
loop-x-preserved g c = search fills

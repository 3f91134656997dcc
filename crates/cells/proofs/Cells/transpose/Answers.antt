-- `Cells::transpose` meets its contract: the definition computes to these rows.
use mathlib.Core.Path.{ap, ◌∙◌}
use Rattle.words.specs.Lists.{upto}
use Rattle.cells.specs.Workings.{of_rows, transposed}
use Rattle.cells.proofs.Laws.{four}
use Rattle.cells.proofs.Cells.transpose.Goals as goal

pub returns : goal.returns
unfolding of_rows transposed upto
returns c = c.of_rows.ensures ∙ ap of_rows (four c.take.ensures c.take-2.ensures c.take-3.ensures c.take-4.ensures)

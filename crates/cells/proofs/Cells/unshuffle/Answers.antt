-- `Cells::unshuffle` meets its contract: the definition computes to these rows.
use mathlib.Core.Path.{ap, ◌∙◌}
use Rattle.words.specs.Lists.{upto}
use Rattle.cells.specs.Cells.{picked}
use Rattle.cells.specs.Workings.{of_rows}
use Rattle.cells.proofs.Laws.{four}
use Rattle.cells.proofs.Cells.unshuffle.Goals as goal

pub returns : goal.returns
unfolding of_rows picked upto
returns c = c.of_rows.ensures ∙ ap of_rows (four c.take.ensures c.take-2.ensures c.take-3.ensures c.take-4.ensures)

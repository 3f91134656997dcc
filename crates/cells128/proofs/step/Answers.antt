-- `step` meets its contract: the code moves the bits before the places and the definition after them; both compute to the same cells.
use mathlib.Core.Path.{ap}
use Rattle.words.specs.Lists.{upto}
use Rattle.cells.specs.Cells.{picked, step_from, on_seven}
use Rattle.cells128.specs.Workings.{moved_cells}
use Rattle.cells128.proofs.Moves.{all_masks}
use Rattle.cells128.proofs.step.Goals as goal

pub move_cells-moved-requires : goal.move_cells-moved-requires
unfolding picked on_seven moved_cells upto
move_cells-moved-requires c = all_masks _ _ tt

pub returns : goal.returns
unfolding picked on_seven moved_cells upto
returns c = ap (picked step_from) c.move_cells-moved.ensures

-- `unstep` meets its contract: the masks are those of the seven cells, and the definition computes to these places.
use mathlib.Core.Path.{ap}
use Rattle.words.specs.Lists.{upto}
use Rattle.cells.specs.Cells.{picked, unstep_from, on_seven}
use Rattle.cells128.specs.Workings.{moved_cells}
use Rattle.cells128.proofs.Moves.{all_masks}
use Rattle.cells128.proofs.unstep.Goals as goal

pub move_cells-moved-requires : goal.move_cells-moved-requires
unfolding picked on_seven moved_cells upto
move_cells-moved-requires c = all_masks _ _ tt

pub returns : goal.returns
unfolding picked on_seven moved_cells upto
returns c = ap (picked unstep_from) c.move_cells-moved.ensures

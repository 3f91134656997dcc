-- `box_2` meets its contract: the gates have the table's entry at every cell.
use borrow.Author.Rules.{rules}
use mathlib.Core.Path.{◌∙◌}
use Rattle.cells128.specs.Workings.{gates2}
use Rattle.cells128.proofs.Gates.{passed, box_2_is}
use Rattle.cells128.proofs.box_2.Goals as goal

pub returns : goal.returns
returns c = let by = c.boxed_by.ensures in passed gates2 207 c.args.x by.1 by.2 ∙ box_2_is c.args.x (search rules)

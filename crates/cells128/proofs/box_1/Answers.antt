-- `box_1` meets its contract: the gates have the table's entry at every cell.
use borrow.Author.Rules.{rules}
use mathlib.Core.Path.{◌∙◌}
use Rattle.cells128.specs.Workings.{gates1}
use Rattle.cells128.proofs.Gates.{passed, box_1_is}
use Rattle.cells128.proofs.box_1.Goals as goal

pub returns : goal.returns
returns c = let by = c.boxed_by.ensures in passed gates1 204 c.args.x by.1 by.2 ∙ box_1_is c.args.x (search rules)

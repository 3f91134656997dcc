-- `box_0` meets its contract: the gates have the table's entry at every cell.
use borrow.Author.Rules.{rules}
use mathlib.Core.Path.{◌∙◌}
use lib.Bits.{xor_zero_r}
use Rattle.cells128.specs.Workings.{gates0}
use Rattle.cells128.proofs.Gates.{passed, box_0_is}
use Rattle.cells128.proofs.box_0.Goals as goal

pub returns : goal.returns
returns c = let by = c.boxed_by.ensures in passed gates0 0 c.args.x by.1 by.2 ∙ xor_zero_r _ ∙ box_0_is c.args.x (search rules)

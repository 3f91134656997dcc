-- `unbox_2` meets its contract: the gates have the table's entry at every cell.
use borrow.Author.Rules.{rules}
use mathlib.Core.Path.{◌∙◌}
use Rattle.cells128.specs.Workings.{ungates2}
use Rattle.cells128.proofs.Gates.{unpassed, unbox_2_is}
use Rattle.cells128.proofs.unbox_2.Goals as goal

pub returns : goal.returns
returns c = let by = c.unboxed_by.ensures in unpassed ungates2 85 c.args.x by.1 by.2 ∙ unbox_2_is c.args.x (search rules)

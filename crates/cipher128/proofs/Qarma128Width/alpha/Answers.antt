-- `alpha` meets its contract: the cells of the word compute to these.
use borrow.Author.Rules.{rules}
use Rattle.words.specs.Lists.{upto}
use Rattle.cells.specs.Cells.{cut}
use Rattle.cells.specs.Workings.{of_rows}
use Rattle.cipher128.proofs.Qarma128Width.alpha.Goals as goal

pub of_rows-requires : goal.of_rows-requires
unfolding cut of_rows upto
of_rows-requires c = search rules

pub returns : goal.returns
unfolding cut of_rows upto
returns c = c.of_rows.ensures

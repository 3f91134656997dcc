-- `alpha` meets its contract: the cells of the word compute to these.
use borrow.Author.Rules.{rules}
use Rattle.cells.specs.Cells.{cut}
use Rattle.cipher64.proofs.Qarma64Width.alpha.Goals as goal

pub returns : goal.returns
unfolding cut
returns c = search rules

-- `word` meets its contract: sixteen cells of 4 bits make at most 64 bits.
use borrow.Author.Rules.{rules}
use native.Mathlib.Omega.{arith}
use lib.Dec.{lit<}
use Rattle.cells.specs.Cells.{joined}
use Rattle.words.proofs.Laws.{word_fits}
use Rattle.cells.proofs.Words.{below_digits}
use Rattle.cells64.proofs.word.Goals as goal

pub slice_bounds-read-end : goal.slice_bounds-read-end
unfolding joined
slice_bounds-read-end c = search rules

pub read-requires : goal.read-requires
unfolding joined
read-requires c = (lit< tt, word_fits (below_digits c.requires) (omega (arith, c.requires.size)))

pub returns : goal.returns
unfolding joined
returns c = c.read.ensures

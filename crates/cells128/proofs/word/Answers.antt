-- `word` meets its contract: the first eight cells are the high half, the others the low one.
use native.Mathlib.Omega.{arith}
use lib.Dec.{lit<}
use Rattle.cells128.proofs.Halves.{first_fits, second_fits, joined_halves}
use Rattle.cells128.proofs.word.Goals as goal

pub slice_bounds-read-end : goal.slice_bounds-read-end
slice_bounds-read-end c = omega (arith, c.requires.size)

pub read-requires : goal.read-requires
read-requires c = (lit< tt, first_fits c.requires)

pub slice_bounds-read-end-2 : goal.slice_bounds-read-end-2
slice_bounds-read-end-2 c = omega (arith, c.requires.size)

pub read-requires-2 : goal.read-requires-2
read-requires-2 c = (lit< tt, second_fits c.requires)

pub returns : goal.returns
returns c = joined_halves c.requires c.read.ensures c.read-2.ensures

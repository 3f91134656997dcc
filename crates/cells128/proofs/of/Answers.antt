-- `of` meets its contract: each half is written as its eight digits.
use borrow.Author.Rules.{rules}
use mathlib.Core.Path.{refl}
use native.Mathlib.Omega.{arith}
use Rattle.cells128.proofs.Halves.{of_halves}
use Rattle.cells128.proofs.of.Goals as goal

pub slice_bounds-at-end-2 : goal.slice_bounds-at-end-2
slice_bounds-at-end-2 c = rw c.write.ensures (omega arith)

pub returns : goal.returns
returns c = of_halves _ _ _ _ _ (search rules) refl c.write.ensures c.write-2.ensures

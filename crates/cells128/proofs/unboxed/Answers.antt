-- `unboxed` meets its contract: the loop fills sixteen cells from the inverse box.
use mathlib.Core.Path.{sym, ap}
use mathlib.Core.List.{List}
use Prim.Native.Nat.{ℕ}
use Rattle.cells.specs.Cells.{looked}
use Rattle.cells.proofs.Fill.{fills, whole}
use Rattle.cells128.proofs.unboxed.Goals as goal

pub unbox_cell-requires : goal.unbox_cell-requires
unbox_cell-requires c = c.number_of-number.ensures.1

pub loop-i-preserved : goal.loop-i-preserved
loop-i-preserved c = search fills

pub returns : goal.returns
unfolding looked
returns c = rw (sym c.number_of-number.ensures.0) (ap (λ (l : List ℕ). record { at = l }) (whole c.loop-i.invariant c.loop-i-test.false))

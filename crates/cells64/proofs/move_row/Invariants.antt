-- `move_row` meets its contract: the loop fills the four cells.
use Prim.Native.Nat.{◌-◌}
use lib.ListN.{get_or}
use Rattle.words.specs.Lists.{◌!◌}
use Rattle.cells.specs.declared.Way.TheVariants.{Kept}
use Rattle.cells.specs.Workings.{bit_moved}
use Rattle.cells.proofs.Fill.{Filled}
use Rattle.cells64.proofs.move_row.Given as goal

abbrev pub invariant-loop-y : goal.invariant-loop-y
invariant-loop-y l = Filled 4 (λ k. bit_moved 4 1 (get_or l.how k Kept) (l.row ! k)) l.out l.y

abbrev pub decreases-loop-y : goal.decreases-loop-y
decreases-loop-y l = 4 - l.y

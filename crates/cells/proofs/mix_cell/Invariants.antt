-- `mix_cell` meets its contract: the loop sums the first j terms.
use mathlib.Core.Path.{◌≡◌}
use Prim.Native.Nat.{◌-◌, ◌≤◌}
use Rattle.words.specs.Lists.{◌!◌, sum}
use Rattle.cells.specs.Cells.{entry, rotated}
use Rattle.cells.proofs.mix_cell.Given as goal

abbrev pub invariant-loop-j : goal.invariant-loop-j
invariant-loop-j g l = (l.j ≤ 4) × (l.sum ≡ sum l.j (λ k. rotated g.W.Matrix.BITS (entry g.W.Matrix.ENTRIES l.x k) (l.column ! k)))

abbrev pub decreases-loop-j : goal.decreases-loop-j
decreases-loop-j g l = 4 - l.j

-- `of` meets its contract: what is written are the word's sixteen digits.
use borrow.Author.Rules.{rules}
use mathlib.Core.Path.{ap}
use mathlib.Core.List.{List}
use Prim.Native.Nat.{ℕ}
use Rattle.cells.specs.Cells.{cut}
use Rattle.cells64.proofs.of.Goals as goal

pub slice_bounds-write-end : goal.slice_bounds-write-end
unfolding cut
slice_bounds-write-end c = search rules

pub write-requires : goal.write-requires
unfolding cut
write-requires c = search rules

pub returns : goal.returns
unfolding cut
returns c = ap (λ (l : List ℕ). record { at = l }) c.write.ensures

-- The one claim about the table of examples: each row gives what the paper says. Both columns compute.
use mathlib.Core.Path.{◌≡◌, refl}
use mathlib.Core.List.{List, map}
use Prim.Native.Nat.{ℕ}
use Rattle.words.specs.Cases.{if_le}
use Rattle.words.specs.Lists.{upto}
use Rattle.cells.specs.Cells.{cut, joined, picked, on_seven, added, mixed_by}
use Rattle.cipher.specs.Engine.{turned}
use Rattle.cipher.specs.Numbers.{joined_numbers}
use Rattle.frame.specs.Blocks.{filled}
use Rattle.kkurimyeot.specs.Examples.{table}

pub examples : map (λ (row : List ℕ × List ℕ). row.0) table ≡ map (λ (row : List ℕ × List ℕ). row.1) table
unfolding table upto cut joined picked on_seven added mixed_by turned joined_numbers filled if_le
examples = refl

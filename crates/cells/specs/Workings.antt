-- What contracts of helping functions say: cells row by row, the bits of a row moved. Not from the paper.
use Rattle.std.specs.Prelude.{List, ℕ, ◌/◌, ◌%◌, ◌<◌, get_or}
use Rattle.words.specs.Lists.{◌!◌, upto}
use Rattle.cells.specs.Cells.{sixteen, entry, square, bit_stepped, bit_unstepped}
use Rattle.cells.specs.declared.Cells.{Cells}
use Rattle.cells.specs.declared.Way.{Way}
use Rattle.cells.specs.declared.Way.TheVariants.{Kept, Stepped, Back}

-- the cells of four rows
unfoldable pub of_rows : List (List ℕ) → Cells
of_rows r = sixteen (λ i. entry r (i / 4) (i % 4))

-- the square with its columns as rows
unfoldable pub transposed : Cells → Cells
transposed a = sixteen (λ i. square a (i % 4) (i / 4))

-- a cell of m bits kept, its bits stepped, or stepped back
abbrev pub bit_moved : ℕ → ℕ → Way → ℕ → ℕ
bit_moved m k Kept v = v
bit_moved m k Stepped v = bit_stepped m k v
bit_moved m k Back v = bit_unstepped m k v

-- each cell of a row by its own of these
abbrev pub moved_row : ℕ → ℕ → List Way → List ℕ → List ℕ
moved_row m k how row = upto 4 (λ y. bit_moved m k (get_or how y Kept) (row ! y))

-- the entries of a mix as rotations of cells of m bits: each is below m, and m is at most 8
pub record Rotations (m : ℕ) (t : List (List ℕ)) : Type 0 where
  pub bits : m < 9
  pub all : (x j : ℕ) → x < 4 → j < 4 → entry t x j < m

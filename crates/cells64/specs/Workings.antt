-- What contracts of private functions say: boxes as words. Not from the paper.
use Rattle.std.specs.Prelude.{List, [], ◌∷◌, ℕ, ◌*◌, ◌/◌, ◌%◌, ◌^◌, get_or}
use Rattle.words.specs.Lists.{upto}
use Rattle.cells.specs.Boxes.{box0, box1}

-- a box as a word: its sixteen outputs, the least significant digit first
unfoldable pub nibbles : ℕ → List ℕ
nibbles w = upto 16 (λ v. w / 2 ^ (4 * v) % 16)

-- box 0 or 1, or for box 2 the outputs t
abbrev pub box_or : ℕ → List ℕ → List ℕ
box_or b t = get_or (box0 ∷ box1 ∷ t ∷ []) b []

-- `bit_unstep` meets its contract: bit 0 of a cell is the cell divided by 1.
use mathlib.Core.Path.{sym, ap}
use native.Mathlib.Nat.{div-one}
use Prim.Native.Nat.{ℕ, ◌+◌, ◌*◌, ◌/◌, ◌%◌}
use Rattle.words.specs.Digits.{◌⊕◌}
use Rattle.cells64.proofs.bit_unstep.Goals as goal

pub returns : goal.returns
returns c = let x = c.args.x in ap (λ (v : ℕ). x % 8 * 2 + (x / 8 ⊕ v) % 2) (sym (div-one x))

-- `rotate` meets its contract: the mask keeps the m low bits of what is shifted left.
use mathlib.Core.Path.{ap, ◌∙◌}
use Prim.Native.Nat.{ℕ, ◌-◌, ◌*◌, ◌/◌, ◌^◌}
use Rattle.words.specs.Digits.{◌⊕◌}
use Rattle.cells.proofs.Rows.{low_bits, rotates}
use Rattle.cells.proofs.rotate.Goals as goal

pub returns : goal.returns
returns c =
    let m = c.args.m in
    let k = c.args.k in
    let x = c.args.x in
    ap (λ (n : ℕ). n ⊕ (x / 2 ^ (m - k))) (low_bits m (x * 2 ^ k) c.requires.1) ∙ rotates m k x c.if-k-eq0.false

-- `w1_from` meets its contract: the bit that is shifted up and the bits that are shifted down have no place in common.
use mathlib.Core.Path.{◌≡◌, ap}
use Prim.Native.Nat.{ℕ, ◌*◌, ◌/◌, ◌%◌, ◌^◌, ◌<◌}
use native.Mathlib.Omega.{arith}
use lib.Bits.{bit_or, or_shifted}
use Rattle.words.specs.Digits.{◌⊕◌}
use Rattle.cipher.specs.Engine.{rotated_right}
use Rattle.cipher64.proofs.Qarma64Width.w1_from.Goals as goal

up : (w : ℕ) → w * 2 ^ 63 % 2 ^ 64 ≡ w % 2 * 2 ^ 63
up w = omega arith

rotated-is : (w : ℕ) → w / 2 < 2 ^ 63 → bit_or (w * 2 ^ 63 % 2 ^ 64) (w / 2) ≡ rotated_right 64 w
rotated-is w h = rw (up w) (or_shifted (w % 2) 63 (w / 2) h)

pub returns : goal.returns
returns c = ap (λ (n : ℕ). n ⊕ c.args.w0 / 2 ^ 63) (rotated-is c.args.w0 (omega arith))

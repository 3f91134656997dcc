-- `put_sealed` meets its contract: the blocks, then the tag.
use mathlib.Core.Path.{refl, ap, ap₂, ◌∙◌}
use Prim.Native.Nat.{ℕ, ◌+◌, ◌*◌}
use native.Mathlib.Omega.{arith}
use lib.ListN.{length}
use mathlib.Core.Path.{sym}
use Rattle.words.specs.Digits.{digits, laid}
use Rattle.words.proofs.Laws.{length_laid, middle}
use Rattle.frame.specs.Blocks.{blocks}
use Rattle.frame.specs.Frames.{sealed_block, tag_of, sealed_bytes}
use Rattle.frame.proofs.Laws.{put_behind}
use Rattle.frame.proofs.Sealer.put_sealed.Goals as goal

pub returns : goal.returns
unfolding sealed_bytes
returns c =
    let self = c.args.self in
    let n = blocks (length c.args.message.now) in
    let put = c.put_blocks-total in
    let out = put.new.out in
    let f = sealed_block self.schedule.now 0 self.serial c.args.message.now in
    let eight = middle (n * 8) 8 (n * 8 + 8) out refl (omega arith) in
    let made = c.tag.ensures ∙ ap₂ (tag_of self.schedule.now self.serial self.label.now) (sym c.requires.0) (λ i. (put.ensures i).0) in
    let bytes = c.write.ensures ∙ ap (λ (k : ℕ). digits 8 k c.tag.result) eight ∙ ap (digits 8 8) made in
    put_behind n (laid n f) _ c.args.out.now out c.write.new.out (length_laid n f) (λ i. (put.ensures i).1) bytes

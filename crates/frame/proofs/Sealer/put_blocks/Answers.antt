-- `put_blocks` meets its contract. The invariant: i blocks are written and summed, and the rest is as it was.
use mathlib.Core.Path.{ap, ap₂}
use native.Mathlib.Numerals.{add-one}
use native.Mathlib.Omega.{arith}
use Rattle.words.specs.Digits.{◌⊕◌}
use Rattle.words.proofs.Laws.{laid_more}
use Rattle.frame.specs.Frames.{sealed_block}
use Rattle.frame.specs.declared.Enciphered.{Enciphered}
use Rattle.frame.proofs.Sealer.put_blocks.Goals as goal

pub loop-i-preserved : goal.loop-i-preserved
loop-i-preserved c =
    let loop = c.loop-i in
    let self = c.args.self in
    let enciphered = c.seal_block-block.ensures in
    (rw add-one (ap₂ ◌⊕◌ loop.invariant.0 (ap (λ (b : Enciphered). b.from) enciphered)), laid_more _ (sealed_block self.schedule.now 0 self.serial c.args.message.now) c.args.out.now _ _ _ _ (omega arith) loop.invariant.1 (omega arith) c.write.ensures (ap (λ (b : Enciphered). b.to) enciphered))

-- `open_blocks` meets its contract: the first i blocks are deciphered.
use mathlib.Core.Path.{refl}
use native.Mathlib.Omega.{arith}
use lib.ListN.{length-set}
use Rattle.words.specs.Lists.{upto}
use Rattle.frame.specs.Frames.{opened_block}
use Rattle.frame.proofs.Laws.{upto_turn}
use Rattle.frame.proofs.Sealer.open_blocks.Goals as goal

pub loop-i-init : goal.loop-i-init
unfolding upto
loop-i-init c = (refl, refl)

pub loop-i-preserved : goal.loop-i-preserved
loop-i-preserved c =
    let loop = c.loop-i in
    let self = c.args.self in
    (simp length-set loop.invariant.0, upto_turn (opened_block self.schedule.now self.serial self.n c.args.sealed.now) loop.plain loop.i c.open_block.result (omega arith) loop.invariant.1 c.open_block.ensures)

-- `open_blocks` meets its contract: the first i blocks are deciphered.
use mathlib.Core.Path.{◌≡◌}
use lib.ListN.{length, take}
use Rattle.words.specs.Lists.{upto}
use Rattle.frame.specs.Frames.{opened_block}
use Rattle.frame.proofs.Sealer.open_blocks.Given as goal

abbrev pub invariant-loop-i : goal.invariant-loop-i
invariant-loop-i l = (length l.plain ≡ length l.initial.plain) × (take l.i l.plain ≡ upto l.i (opened_block l.self.schedule.now l.self.serial l.self.n l.sealed))

-- `put_blocks` meets its contract. The invariant: i blocks are written and summed, and the rest is as it was.
use mathlib.Core.Path.{◌≡◌}
use Prim.Native.Nat.{◌+◌, ◌/◌}
use lib.ListN.{length}
use Rattle.words.specs.Lists.{sum}
use Rattle.words.proofs.Laws.{Laid}
use Rattle.frame.specs.Blocks.{block}
use Rattle.frame.specs.Frames.{sealed_block}
use Rattle.frame.proofs.Sealer.put_blocks.Given as goal

abbrev pub invariant-loop-i : goal.invariant-loop-i
invariant-loop-i l = (l.total ≡ sum l.i (block l.message)) × Laid ((length l.message + 7) / 8) (sealed_block l.self.schedule.now 0 l.self.serial l.message) l.initial.out l.out l.i

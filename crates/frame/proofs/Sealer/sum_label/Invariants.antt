-- `sum_label` meets its contract: the loop sums the first i terms.
use mathlib.Core.Path.{◌≡◌}
use Rattle.words.specs.Lists.{sum}
use Rattle.frame.specs.Frames.{sealed_block}
use Rattle.frame.proofs.Sealer.sum_label.Given as goal

abbrev pub invariant-loop-i : goal.invariant-loop-i
invariant-loop-i l = l.total ≡ sum l.i (sealed_block l.self.schedule.now 2 l.self.serial l.self.label.now)

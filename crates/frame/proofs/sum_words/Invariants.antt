-- `sum_words` meets its contract: the loop sums the first words.
use mathlib.Core.Path.{◌≡◌}
use lib.ListN.{get_or}
use Rattle.words.specs.Lists.{sum}
use Rattle.frame.proofs.sum_words.Given as goal

abbrev pub invariant-loop-w : goal.invariant-loop-w
invariant-loop-w l = l.total ≡ sum l.w-index (λ i. get_or l.list i 0)

-- `opened_purpose` meets its contract: the test gives the case.
use native.Mathlib.Omega.{arith}
use Rattle.words.proofs.Cases.{le_case, gt_case}
use Rattle.frame.specs.Blocks.{opened_purpose}
use Rattle.frame.proofs.opened_purpose.Goals as goal

pub returns-then-n-i : goal.returns-then-n-i
unfolding opened_purpose
returns-then-n-i c = gt_case _ _ _ _ (omega arith)

pub returns : goal.returns
unfolding opened_purpose
returns c = le_case _ _ _ _ (omega arith)

-- `tag_purpose` meets its contract: the test gives the case.
use native.Mathlib.Omega.{arith}
use Rattle.words.proofs.Cases.{le_case, gt_case}
use Rattle.frame.specs.Blocks.{tag_purpose}
use Rattle.frame.proofs.tag_purpose.Goals as goal

pub returns-then-n-eq0 : goal.returns-then-n-eq0
unfolding tag_purpose
returns-then-n-eq0 c = le_case _ _ _ _ (omega arith)

pub returns : goal.returns
unfolding tag_purpose
returns c = gt_case _ _ _ _ (omega arith)

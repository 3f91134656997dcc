-- `fill_difference` meets its contract: the test gives the case, and no bit differs exactly where the fill is right.
use Prim.Native.Nat.{◌-◌, ◌*◌, ◌/◌, ◌%◌, ◌^◌}
use mathlib.Core.Path.{sym, ◌∙◌}
use native.Mathlib.Omega.{arith}
use lib.ListN.{get_or}
use Rattle.words.proofs.Laws.{power}
use Rattle.words.proofs.Cases.{le_case, gt_case}
use Rattle.frame.proofs.Differences.{difference}
use Rattle.frame.proofs.Fills.{fill_bits}
use Rattle.frame.proofs.fill_difference.Goals as goal

pub returns-then-r-eq0 : goal.returns-then-r-eq0
returns-then-r-eq0 c = le_case _ _ _ _ (omega arith) ∙ sym (fill_bits _ _)

pub returns : goal.returns
returns c =
    let n = c.args.n in
    rw (power (64 - n % 8 * 8) 64 (omega arith), power (63 - n % 8 * 8) 64 (omega arith))
    (difference (get_or c.args.plain.now (n / 8) 0 % 2 ^ (64 - n % 8 * 8)) (2 ^ (63 - n % 8 * 8)) ∙ gt_case _ _ _ _ (omega arith) ∙ sym (fill_bits _ _))

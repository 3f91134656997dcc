-- `box_cell` meets its contract: each arm is one box.
use mathlib.Core.Path.{◌≡◌}
use native.Mathlib.Omega.{arith}
use Rattle.cells128.proofs.box_cell.Goals as goal

pub returns-in-0 : goal.returns-in-0
returns-in-0 c = let e : c.args.number ≡ 0 = omega arith in rw e c.box_0.ensures

pub returns-in-1 : goal.returns-in-1
returns-in-1 c = let e : c.args.number ≡ 1 = omega arith in rw e c.box_1.ensures

pub returns-in_default : goal.returns-in_default
returns-in_default c = let e : c.args.number ≡ 2 = omega arith in rw e c.box_2.ensures

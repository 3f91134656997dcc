-- `look_up_in_halves` meets its contract: the digit that is chosen from the two halves is the one that the table has there.
use mathlib.Core.Path.{◌∙◌}
use native.Mathlib.Omega.{arith}
use Rattle.cells64.proofs.Halves.{digit_at, digit_chosen_lem, digit_below}
use Rattle.cells64.proofs.look_up_in_halves.Goals as goal

-- a digit is a cell
pub overflow_cast-result : goal.overflow_cast-result
overflow_cast-result c = rw (c.wide_32-s.ensures, c.wide_32.ensures) (omega (arith, digit_below c.args.table c.args.x c.requires))

-- the digit chosen
pub returns : goal.returns
returns c = rw (c.wide_32-s.ensures, c.wide_32.ensures) (digit_chosen_lem c.args.table c.args.x c.requires ∙ digit_at c.args.table c.args.x c.requires)

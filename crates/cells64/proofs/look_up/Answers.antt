-- `look_up` meets its contract, whichever way it goes: by halves, or because the cell that is shifted down and masked is the one that the table has there.
use mathlib.Core.Path.{◌∙◌}
use Prim.Native.Nat.{◌*◌, ◌/◌, ◌^◌}
use native.Mathlib.Omega.{arith}
use lib.Bits.{and_mask, mask_lt}
use Rattle.cells64.proofs.Halves.{digit_at}
use Rattle.cells64.proofs.look_up.Goals as goal

pub overflow_cast-result : goal.overflow_cast-result
overflow_cast-result c = omega (arith, mask_lt (c.args.table / 2 ^ (4 * c.wide.result)) 4)

pub returns : goal.returns
returns c = rw c.wide.ensures (and_mask (c.args.table / 2 ^ (4 * c.args.x)) 4 ∙ digit_at c.args.table c.args.x c.requires)

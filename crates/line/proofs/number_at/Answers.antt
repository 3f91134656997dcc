-- `line::number_at` meets its contract: after i turns v is the number of the first i digits, and no greater than that of all.
use native.Mathlib.Omega.{arith}
use Rattle.line.proofs.Shape.{num_room}
use Rattle.line.proofs.number_at.Goals as goal

pub overflow_mul-v : goal.overflow_mul-v
overflow_mul-v c = omega (arith, num_room c.args.s.now c.args.a c.args.n c.loop-i.i _ (omega arith) c.requires.1 c.loop-i.invariant)

pub overflow_add-v : goal.overflow_add-v
overflow_add-v c = omega (arith, num_room c.args.s.now c.args.a c.args.n c.loop-i.i _ (omega arith) c.requires.1 c.loop-i.invariant, c.digit_at.ensures)

-- `line::put_head` meets its contract: each field is written into its own place.
use native.Mathlib.Omega.{arith}
use Rattle.line.proofs.Writing.{head_put}
use Rattle.line.proofs.put_head.Goals as goal

pub returns : goal.returns
returns c = head_put c.args.out.now _ _ _ _ _ _ _ (omega arith) c.put_digits.ensures c.put_digits-2.ensures c.put_digits-3.ensures c.put_digits-4.ensures

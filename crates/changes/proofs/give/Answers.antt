-- `changes::give` meets its contract: refusal 5, or the report in the first bytes.
use native.Mathlib.Omega.{arith}
use Rattle.changes.proofs.Calls.{no_room, gave}
use Rattle.changes.proofs.give.Goals as goal

pub returns-then-out-text : goal.returns-then-out-text
returns-then-out-text c = no_room _ _ (omega arith)

pub returns : goal.returns
returns c = gave _ _ _ _ (omega arith) c.append-n.ensures

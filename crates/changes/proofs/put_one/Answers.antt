-- `changes::put_one` meets its contract: the start, and byte 0A.
use native.Mathlib.Omega.{arith}
use Rattle.texts.proofs.Texts.{and_then}
use Rattle.changes.proofs.Pairs.{other_text, said_one}
use Rattle.changes.proofs.put_one.Goals as goal

pub returns : goal.returns
returns c = (other_text (said_one _ _) (and_then c.put_start-a.ensures.0 c.append.ensures (omega arith)), omega arith)

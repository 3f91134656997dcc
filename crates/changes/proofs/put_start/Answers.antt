-- `changes::put_start` meets its contract: the word, and the twelve digits behind the version.
use native.Mathlib.Omega.{arith}
use Rattle.texts.proofs.Texts.{and_then}
use Rattle.changes.proofs.put_start.Goals as goal

pub returns : goal.returns
returns c = (and_then c.append-a.ensures c.append.ensures (omega arith), omega arith)

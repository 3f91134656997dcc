-- `listing::put_refused` meets its contract: number, text and refusal, each behind the other.
use native.Mathlib.Omega.{arith}
use Rattle.texts.proofs.Texts.{and_then}
use Rattle.listing.proofs.put_refused.Goals as goal

pub returns : goal.returns
returns c = and_then c.append_decimal-a.ensures.0 (and_then c.append-b.ensures (and_then c.append_refusal-c.ensures.0 c.append.ensures (omega arith)) (omega arith)) (omega arith)

-- `listing::put_total` meets its contract: three fields, each behind the other.
use native.Mathlib.Omega.{arith}
use Rattle.texts.proofs.Texts.{and_then}
use Rattle.listing.proofs.put_total.Goals as goal

pub returns : goal.returns
returns c = and_then c.append_field-a.ensures.0 (and_then c.append_field-b.ensures.0 (and_then c.append_field-c.ensures.0 c.append.ensures (omega arith)) (omega arith)) (omega arith)

-- `listing::put_opened` meets its contract: number, text and count, each behind the other.
use native.Mathlib.Omega.{arith}
use Rattle.texts.proofs.Texts.{and_then}
use Rattle.listing.proofs.put_opened.Goals as goal

pub returns : goal.returns
returns c = and_then c.append_decimal-a.ensures.0 (and_then c.append_field-b.ensures.0 c.append.ensures (omega arith)) (omega arith)

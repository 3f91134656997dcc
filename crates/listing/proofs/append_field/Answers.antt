-- `listing::append_field` meets its contract: the text, then the number.
use native.Mathlib.Omega.{arith}
use Rattle.texts.proofs.Texts.{and_then}
use Rattle.listing.proofs.append_field.Goals as goal

pub returns : goal.returns
returns c = (and_then c.append-a.ensures c.append_decimal.ensures.0 (omega arith), omega arith)

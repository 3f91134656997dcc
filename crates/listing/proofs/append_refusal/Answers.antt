-- `listing::append_refusal` meets its contract: the number alone, or with the place for 7.
use native.Mathlib.Omega.{arith}
use Rattle.texts.proofs.Texts.{and_then}
use Rattle.listing.proofs.Refused.{number_alone}
use Rattle.listing.proofs.append_refusal.Goals as goal

pub returns-in-Line : goal.returns-in-Line
returns-in-Line c =
    let number = rw (c.number.ensures, c.in-Line.is) at c.append_decimal-a.ensures.0 in
    (rw c.in-Line.is (and_then number c.append_field.ensures.0 (omega arith)), omega arith)

pub returns : goal.returns
returns c = (rw (number_alone _ c.in_default.not-Line, ← c.number.ensures) c.append_decimal-a.ensures.0, omega arith)

-- `changes::put_numbers` meets its contract: each text behind the one before.
use native.Mathlib.Omega.{arith}
use Rattle.texts.specs.Texts.{decimal}
use Rattle.texts.proofs.Texts.{and_then}
use Rattle.changes.proofs.Pairs.{other_text, said_numbers}
use Rattle.changes.proofs.put_numbers.Goals as goal

pub returns : goal.returns
returns c =
    let x = c.args in
    let a = c.append-a.ensures in
    let b = and_then a c.append_decimal-b.ensures.0 (omega arith) in
    let d = and_then b c.append-c.ensures (omega arith) in
    (other_text (said_numbers (decimal x.place) (decimal x.bits)) (and_then d c.append_decimal.ensures.0 (omega arith)), omega arith)

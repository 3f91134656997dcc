-- `changes::put_both` meets its contract: the start, the numbers, and byte 0A.
use native.Mathlib.Omega.{arith}
use mathlib.Core.List.{◌∷◌, ◌++◌}
use Rattle.texts.specs.Texts.{decimal}
use Rattle.changes.specs.Report.{both_text}
use Rattle.texts.proofs.Texts.{and_then}
use Rattle.changes.proofs.Pairs.{other_text, said_both}
use Rattle.changes.proofs.put_both.Goals as goal

pub returns : goal.returns
returns c =
    let x = c.args in
    let a = and_then c.put_start-a.ensures.0 c.put_numbers-b.ensures.0 (omega arith) in
    (other_text (said_both both_text x.l.now (32 ∷ (decimal x.place ++ (32 ∷ decimal x.bits)))) (and_then a c.append.ensures (omega arith)), omega arith)

-- `texts::append_decimal` meets its contract: the digits that are left, then what is written, are the whole.
use native.Mathlib.Omega.{arith}
use Rattle.texts.proofs.Texts.{spell_turn, spell_part, decimal_short}
use Rattle.texts.proofs.append_decimal.Goals as goal

pub loop-rest-preserved : goal.loop-rest-preserved
loop-rest-preserved c = (spell_turn _ _ _ _ (omega arith) c.loop-rest.invariant).1

pub returns : goal.returns
returns c =
    let made = rw (spell_part _ _ _ _ (omega arith) c.loop-rest.invariant) at c.append.ensures in
    (made, omega (arith, made.end, decimal_short c.args.x))

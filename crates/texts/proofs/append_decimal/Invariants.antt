-- `texts::append_decimal` meets its contract: the digits that are left, then what is written, are the whole.
use Rattle.texts.proofs.Texts.{Spelling}
use Rattle.texts.proofs.append_decimal.Given as goal

abbrev pub invariant-loop-rest : goal.invariant-loop-rest
invariant-loop-rest l = Spelling l.x l.i l.rest l.text

abbrev pub decreases-loop-rest : goal.decreases-loop-rest
decreases-loop-rest l = l.rest

-- `words::read` meets its contract. The invariant: x, followed by the digits that are left, is the whole number.
use Rattle.words.proofs.Laws.{read_turn}
use Rattle.words.proofs.read.Goals as goal

pub overflow_add-x : goal.overflow_add-x
overflow_add-x c = record { fits = (read_turn _ _ _ _ c.loop-digit-test.true c.loop-digit.invariant c.requires.1).0 }

pub loop-digit-preserved : goal.loop-digit-preserved
loop-digit-preserved c = (read_turn _ _ _ _ c.loop-digit-test.true c.loop-digit.invariant c.requires.1).1

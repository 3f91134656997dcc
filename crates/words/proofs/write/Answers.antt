-- `words::write` meets its contract. The invariant: the digits of x that are left, then what is written, are the whole.
use mathlib.Core.Path.{◌∙◌}
use native.Mathlib.Omega.{arith}
use Rattle.words.proofs.Laws.{mask, write_turn}
use Rattle.words.proofs.write.Goals as goal

pub loop-i-preserved : goal.loop-i-preserved
loop-i-preserved c = rw (mask _ _ c.requires) (write_turn _ _ _ _ c.loop-i-test.true (omega arith) ∙ c.loop-i.invariant)

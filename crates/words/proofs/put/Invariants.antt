-- `put` meets its contract. The invariant: i words are written, and the rest is as it was.
use lib.ListN.{length, get_or}
use Rattle.words.proofs.Laws.{Laid}
use Rattle.words.proofs.put.Given as goal

abbrev pub invariant-loop-i : goal.invariant-loop-i
invariant-loop-i l = Laid (length l.list) (λ k. get_or l.list k 0) l.initial.out l.out l.i

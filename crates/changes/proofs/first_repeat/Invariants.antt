-- `changes::first_repeat` meets its contract: the serials that were passed came once.
use Rattle.changes.proofs.Serials.{NoneYet}
use Rattle.changes.proofs.first_repeat.Given as goal

abbrev pub invariant-loop-j : goal.invariant-loop-j
invariant-loop-j l = NoneYet l.a l.j

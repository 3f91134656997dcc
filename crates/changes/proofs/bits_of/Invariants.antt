-- `changes::bits_of` meets its contract: the bits counted and those that are left are all.
use lib.ListN.{length}
use Rattle.changes.proofs.Pairs.{Bits}
use Rattle.changes.proofs.bits_of.Given as goal

abbrev pub invariant-loop-x : goal.invariant-loop-x
invariant-loop-x l = Bits l.a l.b (length l.yielded) l.n

-- Each line fed takes a byte, and brings one line at most.
use Rattle.std.proofs.Common.{length, ◌+◌, ◌≤◌}
use Rattle.checker.proofs.Checker.feed_all.Given as goal

abbrev pub invariant-loop-rest : goal.invariant-loop-rest
invariant-loop-rest g l = l.self.lister.lines + length l.rest ≤ l.fn.self.lister.lines + 65536

abbrev pub decreases-loop-rest : goal.decreases-loop-rest
decreases-loop-rest g l = length l.rest

-- Each read brings at most as many lines as a chunk has bytes.
use Rattle.std.proofs.Common.{◌*◌, ◌≤◌}
use Rattle.checker.proofs.Checker.read_all.Given as goal

abbrev pub invariant-loop : goal.invariant-loop
invariant-loop g l = l.self.lister.lines ≤ 65536 * l.counter

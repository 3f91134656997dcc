-- Nothing is remembered yet, so that the serials of the lines that opened rise.
use Rattle.std.proofs.Common.{arith, refl}
use Rattle.listing.proofs.Used.{remembers_none}
use Rattle.checker.proofs.Checker.new.Goals as goal

pub invariant_of-result-clause-kept : goal.invariant_of-result-clause-kept
invariant_of-result-clause-kept c = rw c.new.ensures (record { few = omega arith; lines = omega arith; held = omega arith })

pub invariant_of-result-clause-remembers : goal.invariant_of-result-clause-remembers
invariant_of-result-clause-remembers c = rw c.new.ensures (remembers_none _ refl)

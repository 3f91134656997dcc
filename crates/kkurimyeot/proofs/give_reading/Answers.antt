-- `give_reading` meets its contract: the fields as five words, or refusal 7 with its place, as a number.
use mathlib.Core.Path.{ap}
use Prim.Native.Nat.{ℕ}
use Rattle.kkurimyeot.proofs.Returns.{returns_lem}
use Rattle.kkurimyeot.proofs.give_reading.Goals as goal

pub returns-in-Ok : goal.returns-in-Ok
returns-in-Ok c = rw c.in-Ok.is (returns_lem c.returned.ensures c.give.ensures)

pub returns-in-Err : goal.returns-in-Err
returns-in-Err c = rw c.in-Err.is (ap (λ (n : ℕ). (n, c.args.out.now)) (rw c.from.ensures at c.returned-in-Err.ensures))

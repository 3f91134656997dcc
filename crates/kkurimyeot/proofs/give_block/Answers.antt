-- `give_block` meets its contract: the answer of `give`, or the refusal, as a number.
use mathlib.Core.Path.{ap}
use Prim.Native.Nat.{ℕ}
use Rattle.kkurimyeot.proofs.Returns.{returns_lem}
use Rattle.kkurimyeot.proofs.give_block.Goals as goal

pub returns-in-Ok : goal.returns-in-Ok
returns-in-Ok g c = rw c.in-Ok.is (returns_lem c.returned.ensures c.give.ensures)

pub returns-in-Err : goal.returns-in-Err
returns-in-Err g c = rw c.in-Err.is (ap (λ (n : ℕ). (n, c.args.out.now)) c.returned-in-Err.ensures)

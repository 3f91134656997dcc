-- `changes::rises` meets its contract: the library's answer for each handle and the next.
use Prim.Native.Nat.{ℕ, ◌/◌}
use borrow.Author.Tests.{tests}
use lib.Dec.{ltb}
use Rattle.std.proofs.Common.{rules}
use Rattle.std.proofs.lemmas.Fn.{always_returns_same}
use Rattle.changes.proofs.rises.Goals as goal

pub returns : goal.returns
returns c = c.is_sorted_by.ensures.cases (λ (x y : ℕ). ltb (x / 65536) (y / 65536)) (always_returns_same _ _ _ (λ a r q k. search (rules, tests)))

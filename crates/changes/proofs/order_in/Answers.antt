-- `changes::order_in` meets its contract: sorted handles that rise came once; of others the first that came before is looked for in the order of the file.
use mathlib.Core.Path.{subst}
use mathlib.Core.List.{List}
use Prim.Native.Nat.{ℕ}
use Rattle.changes.specs.Workings.{FirstRepeat, Ascending}
use Rattle.changes.proofs.Serials.{next_rises, rising_once}
use Rattle.changes.proofs.order_in.Goals as goal

-- they rise: none came before
pub returns-then-rises : goal.returns-then-rises
returns-then-rises c =
    let list = c.sort.ensures in
    record { first = rising_once _ (subst Ascending list (next_rises _ _ c.rises.ensures c.if-rises.true)); list = list }

-- they do not
pub returns : goal.returns
returns c = record { first = subst (λ (l : List ℕ). FirstRepeat l c.first_repeat.result) c.copy.ensures c.first_repeat.ensures; list = c.sort.ensures }

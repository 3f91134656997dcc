-- `changes::came_before` meets its contract: one of the serials before is the same, or none.
use Prim.Native.Nat.{ℕ, ◌/◌}
use borrow.Author.Tests.{tests}
use lib.ListN.{get_or, take}
use mathlib.Core.Path.{◌≡◌}
use Rattle.std.proofs.Common.{rules}
use Rattle.std.proofs.lemmas.Iterator.{cases_from_any, YieldsList-from_slice}
use Rattle.changes.proofs.Serials.{any_among}
use Rattle.changes.proofs.came_before.Goals as goal

pub returns : goal.returns
returns c =
    let a = c.args.a.now in
    let s : ℕ = get_or a c.args.j 0 / 65536 in
    any_among s (take c.args.j a) _
    (cases_from_any _ _ _ (λ x. s ≡ x / 65536) (λ x. s ≡ x / 65536 → ⊥) c.any.ensures.ran (YieldsList-from_slice (take c.args.j a) cc) (λ x q k. search (rules, tests)) (λ x q k. search (rules, tests)))

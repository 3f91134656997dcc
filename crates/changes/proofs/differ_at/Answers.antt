-- `changes::differ_at` meets its contract: the place of the first pair that differs.
use borrow.Author.Tests.{tests}
use mathlib.Core.Path.{◌≡◌}
use Rattle.std.proofs.Common.{rules}
use Rattle.std.proofs.lemmas.Iterator.{IsFirst-from_position, YieldsList-from_slice, YieldsList-from_zip}
use Rattle.changes.proofs.Pairs.{differ_first}
use Rattle.changes.proofs.differ_at.Goals as goal

pub returns : goal.returns
returns c =
    let a = c.args.a.now in
    let b = c.args.b.now in
    rw c.unwrap_or.ensures
    (differ_first a b c.position.result c.requires
    (IsFirst-from_position c.position.new.self _ _ (λ p. p.0 ≡ p.1 → ⊥) (λ p. p.0 ≡ p.1) c.position.ensures.ran (YieldsList-from_zip (YieldsList-from_slice a cc) (YieldsList-from_slice b cc)) (λ x q k. search (rules, tests)) (λ x q k. search (rules, tests))))

-- `changes::put_pair` meets its contract: each test gives its case.
use native.Mathlib.Omega.{arith}
use mathlib.Core.Path.{sym, ◌∙◌}
use Rattle.changes.proofs.Pairs.{other_text, pair_other, pair_same, pair_said, nothing_said}
use Rattle.changes.proofs.put_pair.Goals as goal

pub returns-then-x-y : goal.returns-then-x-y
returns-then-x-y c = (other_text (pair_other _ _ c.if-x-y.true) c.put_one.ensures.0, omega arith)

pub returns-then-k-x : goal.returns-then-k-x
returns-then-k-x c = (nothing_said _ _ (pair_same _ _ c.if-x-y.false (sym c.differ_at-k.ensures.0 ∙ c.if-k-x.true)), omega arith)

pub returns : goal.returns
returns c =
    let x = c.args in
    (other_text (pair_said x.x.now x.y.now _ _ c.if-x-y.false c.differ_at-k.ensures.0 c.bits_of.ensures c.if-k-x.false) c.put_both.ensures.0, omega arith)

-- `changes::first_repeat` meets its contract: the serials that were passed came once.
use native.Mathlib.Omega.{arith}
use mathlib.Core.Path.{sym, ◌∙◌}
use Rattle.changes.proofs.Serials.{once_not, once_more, once_all}
use Rattle.changes.proofs.first_repeat.Goals as goal

pub returns-then-came_before : goal.returns-then-came_before
returns-then-came_before c = record { number = once_not _ _ c.loop-j.invariant (omega arith) (sym c.if-came_before.true ∙ c.came_before.ensures); few = omega (arith, c.loop-j.invariant.short) }

pub loop-j-preserved : goal.loop-j-preserved
loop-j-preserved c = once_more _ _ c.loop-j.invariant (omega arith) (sym c.if-came_before.false ∙ c.came_before.ensures)

pub returns : goal.returns
returns c = record { number = once_all _ _ c.loop-j.invariant (omega arith); few = tt }

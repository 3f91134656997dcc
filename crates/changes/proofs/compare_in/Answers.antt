-- `changes::compare_in` meets its contract: the report from the handles is that from the lines.
use native.Mathlib.Omega.{arith}
use mathlib.Core.List.{List}
use Prim.Native.Nat.{ℕ}
use Rattle.refusals.specs.Refusals.{giving}
use Rattle.changes.specs.Compare.{of_neither, reporting}
use mathlib.Core.Path.{ap, ◌∙◌}
use Rattle.sorting.proofs.Turns.{head_part}
use Rattle.changes.proofs.Files.{handles_walkable, handles_report}
use Rattle.changes.proofs.Calls.{text_taken}
use Rattle.changes.proofs.compare_in.Goals as goal

pub walk-n-requires : goal.walk-n-requires
walk-n-requires c = let p = c.requires in ((handles_walkable p.0.0, handles_walkable p.0.1), p.1)

pub slice_bounds-give-end : goal.slice_bounds-give-end
slice_bounds-give-end c = omega (arith, c.walk-n.ensures.1, c.walk-n.auto.out, c.requires.1)

pub slice_bounds-give-end-2 : goal.slice_bounds-give-end-2
slice_bounds-give-end-2 c = head_part c.walk-n.new.out c.walk-n.result (omega (arith, c.walk-n.ensures.1, c.walk-n.auto.out, c.requires.1))

pub give-requires : goal.give-requires
give-requires c = omega (arith, head_part c.walk-n.new.out c.walk-n.result (omega (arith, c.walk-n.ensures.1, c.walk-n.auto.out, c.requires.1)), c.walk-n.ensures.1)

pub returns : goal.returns
unfolding reporting
returns c =
    ap of_neither
    (c.give.ensures
    ∙ ap (λ (t : List ℕ). giving t c.args.out.now) (text_taken _ _ _ _ c.walk-n.ensures.0 ∙ handles_report c.requires.0.0 c.requires.0.1))

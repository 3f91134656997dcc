-- `Schedule::backward_word` meets its contract: three sums.
use mathlib.Core.Path.{ap, ◌∙◌}
use Rattle.cells.specs.Cells.{added}
use Rattle.cells.specs.declared.Cells.{Cells}
use Rattle.cipher.proofs.Schedule.backward_word.Goals as goal

pub returns : goal.returns
returns c =
    let args = c.args in
    c.add-3.ensures ∙ ap (λ (a : Cells). added a args.constant) (c.add-2.ensures ∙ ap (λ (a : Cells). added a args.tweak) c.add.ensures)

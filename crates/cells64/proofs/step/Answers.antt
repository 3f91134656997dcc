-- `step` meets its contract: these are the rows that the definition computes to.
use mathlib.Core.Path.{◌∙◌}
use Rattle.cells.proofs.Rows.{stepped_rows}
use Rattle.cells64.specs.Qarma64.{qarma64}
use Rattle.cells64.proofs.step.Goals as goal

pub returns : goal.returns
returns c =
    c.of_rows.ensures
    ∙ stepped_rows qarma64 c.args.a
    c.move_row.ensures
    c.take.ensures
    c.move_row-2.ensures
    c.take-2.ensures
    c.move_row-3.ensures
    c.take-3.ensures
    c.move_row-4.ensures
    c.take-4.ensures

-- `Cells::mix` meets its contract: these are the columns that the definition computes to.
use mathlib.Core.Path.{ap, ◌∙◌}
use Rattle.cells.specs.Workings.{transposed}
use Rattle.cells.proofs.Rows.{mixed_columns}
use Rattle.cells.proofs.Cells.mix.Goals as goal

pub returns : goal.returns
returns g c =
    c.transpose.ensures
    ∙ ap transposed c.of_rows.ensures
    ∙ mixed_columns g.W.Matrix.BITS g.W.Matrix.ENTRIES c.args.self
    c.mix_column.ensures
    c.take.ensures
    c.mix_column-2.ensures
    c.take-2.ensures
    c.mix_column-3.ensures
    c.take-3.ensures
    c.mix_column-4.ensures
    c.take-4.ensures

-- `Schedule::forward_word` meets its contract: two sums.
use mathlib.Core.Path.{ap, ◌∙◌}
use Rattle.cells.specs.Cells.{added}
use Rattle.cells.specs.declared.Cells.{Cells}
use borrow.Author.Rules.{rules}
use Rattle.cipher.specs.Engine.{forward_word}
use Rattle.cipher.proofs.Schedule.forward_word.Goals as goal

pub add-requires : goal.add-requires
unfolding forward_word
add-requires c = search rules

pub add-requires-2 : goal.add-requires-2
unfolding forward_word
add-requires-2 c = search rules

pub returns : goal.returns
unfolding forward_word
returns c = c.add-2.ensures ∙ ap (λ (a : Cells). added a c.args.constant) c.add.ensures

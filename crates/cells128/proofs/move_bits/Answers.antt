-- `move_bits` meets its contract: a test at every cell for each of the three ways (`moved_is`).
use borrow.Author.Rules.{rules}
use mathlib.Core.Path.{◌∙◌}
use lib.Bits.{bit_and}
use Rattle.words.specs.Digits.{◌⊕◌}
use Rattle.cells128.proofs.Moves.{moved_is}
use Rattle.cells128.proofs.move_bits.Goals as goal

pub returns : goal.returns
returns c =
    let args = c.args in
    (λ i. (args.x ⊕ bit_and (args.x ⊕ c.bit_step.ensures i) args.stepped) ⊕ bit_and (args.x ⊕ c.bit_unstep.ensures i) args.unstepped)
    ∙ moved_is args.stepped args.unstepped args.x c.requires (search rules)

-- `last` meets its contract: the last of the backward steps, and the sum.
use Rattle.std.proofs.Common.{ap, ◌∙◌}
use Rattle.cells.specs.Boxes.{sbox_number}
use Rattle.cells.specs.Cells.{unstepped}
use Rattle.cells.specs.declared.Cells.{Cells}
use Rattle.cipher.specs.Engine.{backward_word}
use Rattle.cipher.proofs.Parts.{backward_word_parts, last_parts}
use Rattle.cipher.proofs.last.Goals as goal

pub returns : goal.returns
returns g c =
    let args = c.args in
    let cipher = g.W.Width.form.cipher in
    let word = backward_word_parts cipher args.s c.constant.result args.state.tweak c.alpha.ensures c.unstep.ensures c.backward_word-word.ensures
    ∙ ap (λ (a : Cells). backward_word cipher args.s a (unstepped cipher args.state.tweak)) c.constant.ensures in
    last_parts cipher (sbox_number args.sbox) args.s args.state word c.short_backward_round.ensures c.add.ensures

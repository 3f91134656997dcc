-- `backward_step` meets its contract: the step back, then the round.
use Rattle.std.proofs.Common.{ap, ◌∙◌}
use Rattle.cells.specs.Boxes.{sbox_number}
use Rattle.cipher.specs.Engine.{backward}
use Rattle.cipher.proofs.Parts.{backward_word_parts}
use Rattle.cipher.proofs.backward_step.Goals as goal

pub returns : goal.returns
returns g c =
    let args = c.args in
    let cipher = g.W.Width.form.cipher in
    let word = backward_word_parts cipher args.s args.constant args.state.tweak c.alpha.ensures c.unstep-tweak.ensures c.backward_word-word.ensures in
    (c.backward_round.ensures ∙ ap (backward cipher (sbox_number args.sbox) args.state.block) word, c.unstep-tweak.ensures)

-- `forward_step` meets its contract: the round, then the step.
use Rattle.std.proofs.Common.{ap, ◌∙◌}
use Rattle.cells.specs.Boxes.{sbox_number}
use Rattle.cipher.specs.Engine.{forward}
use Rattle.cipher.proofs.Rounds.{forward_word_below}
use Rattle.cipher.proofs.forward_step.Goals as goal

pub forward_round-requires : goal.forward_round-requires
forward_round-requires g c =
    let pre = c.requires in
    (pre.1.1.block, rw c.forward_word-word.ensures (forward_word_below g.met.W.Width.lawful pre.0 pre.1.0 pre.1.1.tweak))

pub returns : goal.returns
returns g c =
    let args = c.args in
    (c.forward_round.ensures ∙ ap (forward g.W.Width.form.cipher (sbox_number args.sbox) args.state.block) c.forward_word-word.ensures, c.step.ensures)

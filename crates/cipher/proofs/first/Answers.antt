-- `first` meets its contract: the sum, and the first of the forward steps.
use Rattle.std.proofs.Common.{ap, ◌∙◌}
use Rattle.cells.specs.Boxes.{sbox_number}
use Rattle.cells.specs.declared.Cells.{Cells}
use Rattle.cells.proofs.Laws.{added_below}
use Rattle.cipher.specs.Engine.{forward_word}
use Rattle.cipher.proofs.Rounds.{forward_word_below}
use Rattle.cipher.proofs.Parts.{first_parts}
use Rattle.cipher.proofs.first.Goals as goal

pub short_forward_round-requires : goal.short_forward_round-requires
short_forward_round-requires g c =
    let k = g.met.W.Width.lawful in
    let pre = c.requires.1 in
    (rw c.add.ensures (added_below pre.1.1 pre.0.w0), rw (c.forward_word-word.ensures, c.constant.ensures) (forward_word_below k pre.0 (k.constant 0) pre.1.0))

pub returns : goal.returns
returns g c =
    let args = c.args in
    let word = c.forward_word-word.ensures ∙ ap (λ (a : Cells). forward_word args.s a args.tweak) c.constant.ensures in
    first_parts g.W.Width.form.cipher (sbox_number args.sbox) args.s args.tweak args.block c.add.ensures word c.short_forward_round.ensures c.step.ensures

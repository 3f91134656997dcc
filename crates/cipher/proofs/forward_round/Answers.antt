-- `forward_round` meets its contract: the four steps.
use Rattle.cells.specs.Boxes.{sbox_number}
use Rattle.cells.proofs.Laws.{added_below}
use Rattle.cells.proofs.Lawful.{shuffled_below, mix_below}
use Rattle.cipher.proofs.Parts.{forward_parts}
use Rattle.cipher.proofs.forward_round.Goals as goal

pub boxed-requires : goal.boxed-requires
boxed-requires g c =
    let k = g.met.W.Width.lawful in
    rw (c.mix.ensures, c.shuffle.ensures, c.add.ensures) (mix_below k (shuffled_below k (added_below c.requires.0 c.requires.1)))

pub returns : goal.returns
returns g c =
    forward_parts g.W.Width.form.cipher (sbox_number c.args.sbox) c.args.x c.args.word c.add.ensures c.shuffle.ensures c.mix.ensures c.boxed.ensures

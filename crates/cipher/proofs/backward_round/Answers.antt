-- `backward_round` meets its contract: the four steps in reverse order.
use Rattle.cells.specs.Boxes.{sbox_number}
use Rattle.cipher.proofs.Parts.{backward_parts}
use Rattle.cipher.proofs.backward_round.Goals as goal

pub returns : goal.returns
returns g c =
    backward_parts g.W.Width.form.cipher (sbox_number c.args.sbox) c.args.x c.args.word c.unboxed.ensures c.mix.ensures c.unshuffle.ensures c.add.ensures

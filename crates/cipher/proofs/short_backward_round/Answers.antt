-- `short_backward_round` meets its contract: the inverse box, and the sum.
use Rattle.cells.specs.Boxes.{sbox_number}
use Rattle.cipher.proofs.Parts.{short_backward_parts}
use Rattle.cipher.proofs.short_backward_round.Goals as goal

pub returns : goal.returns
returns g c = short_backward_parts g.W.Width.form.cipher (sbox_number c.args.sbox) c.args.x c.args.word c.unboxed.ensures c.add.ensures

-- `short_forward_round` meets its contract: the sum, and the box.
use Rattle.cells.specs.Boxes.{sbox_number}
use Rattle.cells.proofs.Laws.{added_below}
use Rattle.cipher.proofs.Parts.{short_forward_parts}
use Rattle.cipher.proofs.short_forward_round.Goals as goal

pub boxed-requires : goal.boxed-requires
boxed-requires g c = rw c.add.ensures (added_below c.requires.0 c.requires.1)

pub returns : goal.returns
returns g c = short_forward_parts g.W.Width.form.cipher (sbox_number c.args.sbox) c.args.x c.args.word c.add.ensures c.boxed.ensures

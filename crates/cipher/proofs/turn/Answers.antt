-- `turn` meets its contract: alpha is added, and k1 is mixed.
use Rattle.cipher.proofs.Parts.{turned_parts}
use Rattle.cipher.proofs.turn.Goals as goal

pub returns : goal.returns
returns g c = turned_parts g.W.Width.form.cipher c.args.s c.alpha.ensures c.add.ensures c.mix.ensures c.turn.ensures

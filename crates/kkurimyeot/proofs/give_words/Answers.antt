-- `give_words` meets its contract: the answer of `give`, as a number.
use Rattle.kkurimyeot.proofs.Returns.{returns_lem}
use Rattle.kkurimyeot.proofs.give_words.Goals as goal

pub returns : goal.returns
returns g c = returns_lem c.returned.ensures c.give.ensures

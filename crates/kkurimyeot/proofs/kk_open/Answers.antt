-- `kk_open` meets its contract: what opening answers, as a number.
use Rattle.kkurimyeot.proofs.Returns.{returns_lem}
use Rattle.kkurimyeot.proofs.kk_open.Goals as goal

pub returns : goal.returns
returns c = returns_lem c.returned.ensures c.open.ensures

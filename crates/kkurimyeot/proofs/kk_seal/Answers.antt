-- `kk_seal` meets its contract: what sealing answers, as a number.
use Rattle.kkurimyeot.proofs.Returns.{returns_lem}
use Rattle.kkurimyeot.proofs.kk_seal.Goals as goal

pub returns : goal.returns
returns c = returns_lem c.returned.ensures c.seal.ensures

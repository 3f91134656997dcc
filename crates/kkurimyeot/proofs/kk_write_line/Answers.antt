-- `kk_write_line` meets its contract: what writing a line answers, as a number.
use Rattle.kkurimyeot.proofs.Returns.{returns_lem}
use Rattle.kkurimyeot.proofs.kk_write_line.Goals as goal

pub returns : goal.returns
returns c = returns_lem c.returned.ensures c.write.ensures

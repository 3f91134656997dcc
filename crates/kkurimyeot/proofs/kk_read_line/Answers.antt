-- `kk_read_line` meets its contract: the reading that the paper asks for, through C.
use Rattle.kkurimyeot.proofs.kk_read_line.Goals as goal

pub returns : goal.returns
returns c = record { answer = c.read.result; reads = c.read.ensures; gives = c.give_reading.ensures }

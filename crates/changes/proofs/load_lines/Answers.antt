-- `changes::load_lines` meets its contract: a line that is not good comes before a serial that came before.
use Rattle.changes.proofs.Calls.{lines_good}
use Rattle.changes.proofs.load_lines.Goals as goal

pub returns : goal.returns
returns c = let read = c.in_ok-read_handles.ensures in lines_good _ _ _ _ _ c.requires.0 read.0 read.1 c.order.ensures c.repeat_as.ensures

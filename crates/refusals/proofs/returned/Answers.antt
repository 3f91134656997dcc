-- `returned` meets its contract: a number below 256 and a place below 2^32 have no bits in common.
use Rattle.refusals.proofs.returned.Goals as goal

pub returns-in-Err : goal.returns-in-Err
returns-in-Err c = rw (c.in-Err.is, c.number.ensures, c.place.ensures)

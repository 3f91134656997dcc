-- `changes::compare_second` meets its contract: the second file's refusal, or the report.
use Rattle.sorting.proofs.Turns.{head_part}
use Rattle.changes.proofs.Calls.{refused_file, taken_file}
use Rattle.changes.proofs.compare_second.Goals as goal

pub slice_bounds-compare_good-end : goal.slice_bounds-compare_good-end
slice_bounds-compare_good-end c = head_part c.load.new.handles c.in-Ok.count c.in-Ok.ensures.0

pub compare_good-requires : goal.compare_good-requires
compare_good-requires c = (c.requires, c.in-Ok.ensures.1)

pub returns-in-Ok : goal.returns-in-Ok
returns-in-Ok c = taken_file _ 2 _ _ _ c.in-Ok.ensures.1.good c.compare_good.ensures

pub returns-in-Err : goal.returns-in-Err
returns-in-Err c = refused_file _ 2 _ _ _ _ c.refused.ensures c.in-Err.ensures

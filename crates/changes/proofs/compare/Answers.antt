-- `changes::compare` meets its contract: the first file's refusal, or what comes after.
use Rattle.changes.specs.Compare.{comparing}
use Rattle.sorting.proofs.Turns.{head_part}
use Rattle.changes.proofs.Calls.{refused_file, taken_file}
use Rattle.changes.proofs.compare.Goals as goal

pub slice_bounds-compare_second-end : goal.slice_bounds-compare_second-end
slice_bounds-compare_second-end c = head_part c.load.new.handles c.in-Ok.count c.in-Ok.ensures.0

pub compare_second-requires : goal.compare_second-requires
compare_second-requires c = c.in-Ok.ensures.1

pub returns-in-Ok : goal.returns-in-Ok
unfolding comparing
returns-in-Ok c = taken_file _ 1 _ _ _ c.in-Ok.ensures.1.good c.compare_second.ensures

pub returns-in-Err : goal.returns-in-Err
unfolding comparing
returns-in-Err c = refused_file _ 1 _ _ _ _ c.refused.ensures c.in-Err.ensures

-- `changes::line_in` meets its contract: the line that begins where the handle says.
use native.Mathlib.Omega.{arith}
use Rattle.changes.proofs.Walks.{handle_start, handle_end, handle_line}
use Rattle.changes.proofs.line_in.Goals as goal

pub line_end-end-requires : goal.line_end-end-requires
line_end-end-requires c = omega (arith, handle_start _ _ c.requires)

pub slice_bounds-result-end : goal.slice_bounds-result-end
slice_bounds-result-end c = handle_end _ _ c.requires _ c.line_end-end.ensures

pub returns : goal.returns
returns c = handle_line _ _ c.requires _ c.line_end-end.ensures

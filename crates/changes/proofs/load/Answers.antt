-- `changes::load` meets its contract: the limits, then the lines.
use native.Mathlib.Omega.{arith}
use mathlib.Core.Path.{sym, ◌∙◌}
use Rattle.std.proofs.lemmas.Result.{err_from_is_err_and}
use Rattle.sorting.proofs.Turns.{head_part}
use Rattle.changes.proofs.Files.{large_bytes, large_lines, within_limits}
use Rattle.changes.proofs.Calls.{file_loaded}
use Rattle.changes.proofs.load.Goals as goal

pub returns-then-s-gt-FILE_MAX : goal.returns-then-s-gt-FILE_MAX
returns-then-s-gt-FILE_MAX c = sym (large_bytes _ (omega arith))

pub returns-then-n-gt-LINES_MAX : goal.returns-then-n-gt-LINES_MAX
returns-then-n-gt-LINES_MAX c = sym (large_lines _ (omega arith) (omega (arith, c.count_lines-n.ensures)))

pub slice_bounds-load_lines-end-2 : goal.slice_bounds-load_lines-end-2
slice_bounds-load_lines-end-2 c = head_part c.args.handles.now c.count_lines-n.result (omega arith)

pub load_lines-requires : goal.load_lines-requires
load_lines-requires c =
    let n = head_part c.args.handles.now c.count_lines-n.result (omega arith) in
    (omega arith, (sym n ∙ c.count_lines-n.ensures, omega (arith, n)))

pub returns-in_err-load_lines : goal.returns-in_err-load_lines
returns-in_err-load_lines c =
    let p = err_from_is_err_and c.from_residual.result c.from_residual.ensures.1 in
    rw (p.1, p.2) (sym (within_limits _ (omega arith) (omega (arith, c.count_lines-n.ensures))) ∙ c.in_err-load_lines.ensures)

pub returns : goal.returns
returns c =
    let n = head_part c.args.handles.now c.count_lines-n.result (omega arith) in
    let l = c.in_ok-load_lines.ensures in
    file_loaded _ _ _ _ c.count_lines-n.ensures (omega arith) (omega arith) (c.load_lines.auto.handles ∙ sym n) l.0 l.1

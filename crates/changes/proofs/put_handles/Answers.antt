-- `changes::put_handles` meets its contract: the pair of the handles' lines.
use native.Mathlib.Omega.{arith}
use lib.ListN.{length}
use mathlib.Core.Path.{ap, ap₂}
use Rattle.changes.specs.Report.{pair}
use Rattle.changes.proofs.Pairs.{other_text}
use Rattle.changes.proofs.Walks.{handle_length}
use Rattle.changes.proofs.put_handles.Goals as goal

pub put_pair-requires : goal.put_pair-requires
put_pair-requires c =
    let n = handle_length _ _ c.requires.0.0.0 in
    ((omega (arith, ap length c.line_in.ensures, n.0), omega (arith, ap length c.line_in.ensures, n.1, c.requires.0.1)), c.requires.1)

pub returns : goal.returns
returns c = (other_text (ap₂ pair c.line_in.ensures c.line_in-2.ensures) c.put_pair.ensures.0, omega arith)

-- `changes::put_handle` meets its contract: the report line of the handle's line.
use native.Mathlib.Omega.{arith}
use mathlib.Core.Path.{ap}
use mathlib.Core.List.{List, []}
use Prim.Native.Nat.{ℕ}
use lib.ListN.{length}
use Rattle.changes.specs.Report.{saying}
use Rattle.changes.proofs.Pairs.{other_text}
use Rattle.changes.proofs.Walks.{handle_length}
use Rattle.changes.proofs.put_handle.Goals as goal

pub put_one-requires : goal.put_one-requires
put_one-requires c = ((c.requires.0.0, omega (arith, ap length c.line_in.ensures, handle_length _ _ c.requires.0.1)), (omega arith, c.requires.1.1))

pub returns : goal.returns
returns c = (other_text (ap (λ (l : List ℕ). saying c.args.word.now l []) c.line_in.ensures) c.put_one.ensures.0, omega arith)

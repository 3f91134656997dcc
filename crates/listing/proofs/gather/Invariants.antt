-- `listing::gather` meets its contract: what is left of the chunk gives the whole.
use Prim.Native.Nat.{◌≤◌}
use mathlib.Core.Path.{◌≡◌}
use lib.ListN.{length, drop}
use Rattle.listing.specs.Chunks.{gathering}
use Rattle.listing.proofs.gather.Given as goal

abbrev pub invariant-loop-i : goal.invariant-loop-i
invariant-loop-i l = (l.h ≤ 2150) × (length l.line ≡ length l.initial.line) × (gathering l.line l.h l.i (drop l.i l.chunk) ≡ gathering l.initial.line l.held 0 l.chunk)

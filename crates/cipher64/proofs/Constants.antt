-- The cells of QARMA-64's constants, to which the table in the source computes.
use mathlib.Core.Path.{◌≡◌}
use mathlib.Core.List.{[]}
use Prim.Native.Nat.{ℕ, ◌<◌}
use lib.ListN.{get_or}
use Rattle.cells.specs.declared.Cells.{Cells}
use Rattle.cells64.specs.Qarma64.{qarma64, constants}
use Rattle.cipher.proofs.Constants.{rows, constant_at}

pub constant_is : (i : ℕ) → i < 8 → ◌≡◌ {A = Cells} record { at = get_or (rows 4 constants) i [] } (qarma64.constant i)
constant_is i h = constant_at 4 constants i h

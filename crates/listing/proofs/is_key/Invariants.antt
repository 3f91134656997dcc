-- `listing::is_key` meets its contract: each test is a case of `is_key`.
use mathlib.Core.Bool.{true}
use mathlib.Core.Path.{◌≡◌}
use lib.ListN.{length, get_or}
use Rattle.listing.specs.Listing.{are_digits}
use Rattle.listing.proofs.is_key.Given as goal

abbrev pub invariant-loop-i : goal.invariant-loop-i
invariant-loop-i l = (are_digits l.l l.i ≡ true) × (length l.l ≡ 33) × (get_or l.l 32 0 ≡ 10)

-- `listing::is_key` meets its contract: each test is a case of `is_key`.
use native.Mathlib.Omega.{arith}
use Rattle.listing.proofs.Keys.{other_length, other_end, no_digit, key_yes, digits_next}
use Rattle.listing.proofs.is_key.Goals as goal

pub returns-then-l-ne33 : goal.returns-then-l-ne33
returns-then-l-ne33 c = other_length _ c.if-l-ne33.true

pub returns-then-l-ne10 : goal.returns-then-l-ne10
returns-then-l-ne10 c = other_end _ (omega arith) c.if-l-ne10.true

pub returns-then-digit_at-ge16 : goal.returns-then-digit_at-ge16
returns-then-digit_at-ge16 c = let inv = c.loop-i.invariant in no_digit _ c.loop-i.i inv.1 inv.2 (omega arith) (omega (arith, c.digit_at.ensures))

pub loop-i-preserved : goal.loop-i-preserved
loop-i-preserved c = let inv = c.loop-i.invariant in (digits_next c.args.l.now c.loop-i.i inv.0 (omega (arith, c.digit_at.ensures)), inv.1, inv.2)

pub returns : goal.returns
returns c = let inv = c.loop-i.invariant in key_yes _ c.loop-i.i (omega arith) (omega arith) inv.1 inv.2 inv.0

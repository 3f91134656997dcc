-- `listing::unless_used` meets its contract: a line that opens by itself is answered by what became of its serial.
use borrow.Author.Rules.{rules}
use mathlib.Core.Path.{◌≡◌}
use Rattle.std.specs.Prelude.{Err}
use Rattle.refusals.specs.Refusals.{Answer}
use Rattle.listing.proofs.Used.{refused_stays, answered}
use Rattle.listing.proofs.unless_used.Goals as goal

pub returns-in_err-count : goal.returns-in_err-count
returns-in_err-count c =
    let same : ◌≡◌ {A = Answer} c.from_residual.result (Err c.in_err-count.field-0.0) = search rules in
    rw (same, c.in_err-count.was) (refused_stays _ _ _ _)

pub returns-in_err-remember : goal.returns-in_err-remember
returns-in_err-remember c =
    let same : ◌≡◌ {A = Answer} c.from_residual-in_err-remember.result (Err c.in_err-remember.field-0.0) = search rules in
    rw (same, c.in_ok-count.was) (answered _ _ _ c.requires c.in_ok-count.count c.serial_of.ensures c.remember.ensures c.in_err-remember.was)

pub returns : goal.returns
returns c = rw c.in_ok-count.was (answered _ _ _ c.requires _ c.serial_of.ensures c.remember.ensures c.in_ok-remember.was)

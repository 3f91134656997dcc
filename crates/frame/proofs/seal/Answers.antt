-- `seal` meets its contract: a refusal for the limits passes through, and each test gives its case.
use mathlib.Core.Path.{sym, ap₂, ◌∙◌}
use mathlib.Core.List.{List}
use Prim.Native.Nat.{ℕ}
use native.Mathlib.Omega.{arith}
use Rattle.std.specs.Prelude.{Ok}
use Rattle.std.proofs.lemmas.Result.{err_from_is_err_and}
use Rattle.refusals.proofs.Answers.{gives, gives_none}
use Rattle.cipher.proofs.Demands.{schedule_below}
use Rattle.frame.specs.Frames.{sealing}
use Rattle.frame.proofs.Opening.{sealed_length}
use Rattle.frame.proofs.Limits.{goes_on}
use Rattle.frame.proofs.seal.Goals as goal

pub returns-in_err-within_limits : goal.returns-in_err-within_limits
unfolding sealing
returns-in_err-within_limits c =
    let p = err_from_is_err_and c.from_residual.result c.from_residual.ensures.1 in
    rw (p.1, p.2) (sym (c.in_err-within_limits.ensures _ _))

pub returns-then-out-size : goal.returns-then-out-size
unfolding sealing
returns-then-out-size c =
    gives_none _ _ _ (sealed_length _ _ _ _) (omega arith) ∙ goes_on _ _ _ _ _ c.in_ok-within_limits.ensures

pub invariant_of-sealer : goal.invariant_of-sealer
invariant_of-sealer c = record { below = rw c.key_schedule-schedule.ensures (schedule_below 4 _ _ _ _); within = c.in_ok-within_limits.ensures }

pub returns : goal.returns
unfolding sealing
returns c =
    let made = rw c.key_schedule-schedule.ensures at c.put_sealed.ensures in
    ap₂ (λ (k : ℕ) (l : List ℕ). (Ok k, l)) c.sealed_size-size.ensures made ∙ gives _ _ _ (sealed_length _ _ _ _) (omega arith) ∙ goes_on _ _ _ _ _ c.in_ok-within_limits.ensures

-- `open` meets its contract: each test gives its case of the definition, which is unfolded here, and no law about opening is cited.
use borrow.Author.Tests.{eq-eqb, ne_eqb}
use mathlib.Core.Path.{sym, ap, ◌∙◌}
use mathlib.Core.List.{List, ◌++◌}
use Prim.Native.Nat.{ℕ}
use lib.ListN.{drop}
use Rattle.std.specs.Prelude.{Ok}
use Rattle.std.proofs.lemmas.Result.{err_from_is_err_and}
use Rattle.words.proofs.Cases.{le_case, gt_case, yes_case, no_case}
use Rattle.cells64.specs.Qarma64.{qarma64}
use Rattle.cells64.proofs.Lawful64.{lawful64}
use Rattle.cipher.specs.Engine.{key_schedule, turned}
use Rattle.cipher.proofs.Demands.{schedule_below}
use Rattle.cipher.proofs.Rounds.{turned_below}
use Rattle.frame.specs.Frames.{opening}
use Rattle.frame.proofs.Limits.{goes_on}
use Rattle.frame.proofs.Opening.{message_put, message_written}
use Rattle.frame.proofs.open.Goals as goal

-- refusals 2 and 3: the limits
pub returns-in_err-within_limits : goal.returns-in_err-within_limits
unfolding opening
returns-in_err-within_limits c =
    let p = err_from_is_err_and c.from_residual.result c.from_residual.ensures.1 in
    rw (p.1, p.2) (sym (c.in_err-within_limits.ensures _ _))

-- the turned schedule has cells below 16, and the limits were tested
pub invariant_of-opener : goal.invariant_of-opener
invariant_of-opener c = record { below = rw (c.turn-turned.ensures, c.key_schedule-schedule.ensures) (turned_below lawful64 (schedule_below 4 _ _ _ _)); within = c.in_ok-within_limits.ensures }

-- so has the key's schedule
pub invariant_of-sealer : goal.invariant_of-sealer
invariant_of-sealer c = record { below = rw c.key_schedule-schedule.ensures (schedule_below 4 _ _ _ _); within = c.in_ok-within_limits.ensures }

-- refusal 4: another number of sealed bytes
pub returns-then-sealed-sealed_size : goal.returns-then-sealed-sealed_size
unfolding opening
returns-then-sealed-sealed_size c =
    no_case _ _ _ (ne_eqb _ _ (λ e. c.if-sealed-sealed_size.true (e ∙ sym c.sealed_size.ensures))) ∙ goes_on _ _ _ _ _ c.in_ok-within_limits.ensures

-- refusal 5: no room for the message
pub returns-then-out-n : goal.returns-then-out-n
unfolding opening
returns-then-out-n c =
    gt_case _ _ _ _ c.if-out-n.true ∙ yes_case _ _ _ (eq-eqb _ _ (c.if-sealed-sealed_size.false ∙ c.sealed_size.ensures)) ∙ goes_on _ _ _ _ _ c.in_ok-within_limits.ensures

-- refusal 6: tag or fill disagrees
pub returns-then-not-agrees : goal.returns-then-not-agrees
unfolding opening
returns-then-not-agrees c =
    let agreed = rw c.key_schedule-schedule.ensures at c.agrees.ensures in
    no_case _ _ _ (sym agreed ∙ c.if-not-agrees.true)
    ∙ le_case _ _ _ _ c.if-out-n.false
    ∙ yes_case _ _ _ (eq-eqb _ _ (c.if-sealed-sealed_size.false ∙ c.sealed_size.ensures))
    ∙ goes_on _ _ _ _ _ c.in_ok-within_limits.ensures

-- accepted: the message is written
pub returns : goal.returns
unfolding opening
returns c =
    let args = c.args in
    let agreed = rw c.key_schedule-schedule.ensures at c.agrees.ensures in
    let u = turned qarma64 (key_schedule qarma64 args.key.w0 args.key.k0) in
    let plain = rw (c.turn-turned.ensures, c.key_schedule-schedule.ensures) at c.open_blocks.ensures in
    let made = c.put_message.ensures ∙ ap (λ (l : List ℕ). l ++ drop args.n args.out.now) (message_put u args.serial args.n args.sealed.now c.open_blocks.new.plain plain) in
    ap (λ (l : List ℕ). (Ok args.n, l)) made
    ∙ message_written u args.serial args.n args.sealed.now args.out.now
    ∙ yes_case _ _ _ (sym agreed ∙ c.if-not-agrees.false)
    ∙ le_case _ _ _ _ c.if-out-n.false
    ∙ yes_case _ _ _ (eq-eqb _ _ (c.if-sealed-sealed_size.false ∙ c.sealed_size.ensures))
    ∙ goes_on _ _ _ _ _ c.in_ok-within_limits.ensures

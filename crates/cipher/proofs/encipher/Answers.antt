-- `encipher` meets its contract: `block_call` under the schedule of the key.
use Rattle.std.proofs.Common.{ap, ◌∙◌}
use Rattle.cipher.specs.Numbers.{block_call}
use Rattle.cipher.specs.declared.Schedule.{Schedule}
use Rattle.cipher.proofs.Demands.{schedule_below}
use Rattle.cipher.proofs.encipher.Goals as goal

pub block_call-requires : goal.block_call-requires
block_call-requires g c = rw c.key_schedule.ensures (schedule_below _ _ _ _ _)

pub returns : goal.returns
returns g c =
    let args = c.args in
    c.block_call.ensures ∙ ap (λ (s : Schedule). block_call g.W.Width.form args.number args.rounds s args.tweak args.block) c.key_schedule.ensures

-- `decipher` meets its contract: `block_call` under the schedule of the key, turned.
use Rattle.std.proofs.Common.{ap, ◌∙◌}
use Rattle.cipher.specs.Engine.{turned}
use Rattle.cipher.specs.Numbers.{block_call}
use Rattle.cipher.specs.declared.Schedule.{Schedule}
use Rattle.cipher.proofs.Rounds.{turned_below}
use Rattle.cipher.proofs.Demands.{schedule_below}
use Rattle.cipher.proofs.decipher.Goals as goal

pub block_call-requires : goal.block_call-requires
block_call-requires g c = rw (c.turn-turned.ensures, c.key_schedule.ensures) (turned_below g.met.W.Width.lawful (schedule_below _ _ _ _ _))

pub returns : goal.returns
returns g c =
    let args = c.args in
    c.block_call.ensures
    ∙ ap (λ (s : Schedule). block_call g.W.Width.form args.number args.rounds s args.tweak args.block) (c.turn-turned.ensures ∙ ap (turned g.W.Width.form.cipher) c.key_schedule.ensures)

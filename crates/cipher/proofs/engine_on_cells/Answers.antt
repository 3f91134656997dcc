-- `engine_on_cells` meets its contract. Down: the state is what i steps make of the start. Up: what is left to do gives the whole.
use Rattle.std.proofs.Common.{refl, arith, ◌-◌, ◌≤◌}
use Rattle.cells.specs.Boxes.{sbox_number}
use Rattle.cells.proofs.Laws.{added_below}
use Rattle.cipher.proofs.Rounds.{sbox_below, forward_steps_below, middle_below}
use Rattle.cipher.proofs.Loops.{forward_step_again, backward_step_again, forward_step_keeps, backward_step_keeps, whole}
use Rattle.cipher.proofs.engine_on_cells.Goals as goal

pub loop-i-init : goal.loop-i-init
loop-i-init g c =
    let pre = c.requires.1 in
    let start = forward_steps_below g.met.W.Width.lawful pre.0 (sbox_below c.args.sbox) 1 record { block = added_below pre.1.1 pre.0.w0; tweak = pre.1.0 } in
    (rw c.first-state.ensures start, λ x e. e)

pub forward_step-state-requires : goal.forward_step-state-requires
forward_step-state-requires g c = (c.requires.1.0, (rw c.constant.ensures (g.met.W.Width.lawful.constant c.loop-i.i), c.loop-i.invariant.0))

pub loop-i-preserved : goal.loop-i-preserved
loop-i-preserved g c =
    let args = c.args in
    let cipher = g.W.Width.form.cipher in
    let b = sbox_number args.sbox in
    let loop = c.loop-i in
    let step = c.forward_step-state.ensures in
    let above : 1 ≤ loop.i = omega arith in (
      forward_step_keeps cipher b args.s loop.state g.met.W.Width.lawful c.requires.1.0 (sbox_below args.sbox) loop.invariant.0 loop.i above c.constant.ensures step,
      forward_step_again cipher b args.s loop.state loop.i above c.constant.ensures step loop.invariant.1,
    )

pub middle-state-requires : goal.middle-state-requires
middle-state-requires g c = (c.requires.1.0, c.loop-i.invariant.0)

pub loop-i-2-init : goal.loop-i-2-init
loop-i-2-init g c =
    (omega arith, rw c.middle-state.ensures (middle_below g.met.W.Width.lawful c.requires.1.0 (sbox_below c.args.sbox) c.loop-i.invariant.0), refl)

pub loop-i-2-preserved : goal.loop-i-2-preserved
loop-i-2-preserved g c =
    let args = c.args in
    let cipher = g.W.Width.form.cipher in
    let b = sbox_number args.sbox in
    let loop = c.loop-i-2 in
    let step = c.backward_step-state.ensures in
    let constant = c.constant-in-loop-i-2.ensures in (
      omega arith,
      backward_step_keeps cipher b args.s loop.state g.met.W.Width.lawful c.requires.1.0 (sbox_below args.sbox) loop.invariant.1 (loop.i - 1) (omega arith) constant step,
      backward_step_again cipher b args.s loop.state loop.i (omega arith) constant step loop.invariant.2,
    )

pub returns : goal.returns
returns g c =
    let args = c.args in
    whole g.W.Width.form.cipher (sbox_number args.sbox) args.rounds args.s args.tweak args.block c.loop-i-2.state c.loop-i.i c.loop-i-2.i
    (c.loop-i.invariant.1 _ c.first-state.ensures) (omega arith) c.middle-state.ensures c.loop-i-2.invariant.2 (omega arith) c.last.ensures

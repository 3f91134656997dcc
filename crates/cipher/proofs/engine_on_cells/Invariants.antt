-- `engine_on_cells` meets its contract. Down: the state is what i steps make of the start. Up: what is left to do gives the whole.
use Rattle.std.proofs.Common.{◌≡◌, ◌≤◌}
use Rattle.cells.specs.Boxes.{sbox_number}
use Rattle.cipher.specs.Engine.{StateBelow, forward_steps, backward_steps}
use Rattle.cipher.specs.declared.State.{State}
use Rattle.cipher.proofs.engine_on_cells.Given as goal

abbrev pub invariant-loop-i : goal.invariant-loop-i
invariant-loop-i g l =
    let c = g.W.Width.form.cipher in
    let b = sbox_number l.sbox in
    StateBelow c.bits l.state × ((x : State) → l.initial.state ≡ forward_steps c b l.s 1 x → l.state ≡ forward_steps c b l.s l.i x)

abbrev pub invariant-loop-i-2 : goal.invariant-loop-i-2
invariant-loop-i-2 g l =
    let c = g.W.Width.form.cipher in
    let b = sbox_number l.sbox in
    (1 ≤ l.i) × StateBelow c.bits l.state × (backward_steps c b l.s l.i l.state ≡ backward_steps c b l.s l.initial.i l.initial.state)

-- `block_call` meets its contract: each test gives its case, and within the limits the engine answers.
use Rattle.std.proofs.Common.{◌≡◌, ℕ, ◌≤◌, ap, ap₂, sym, ◌∙◌, arith}
use Rattle.std.specs.Prelude.{Ok}
use Rattle.cells.specs.Boxes.{sbox_number}
use Rattle.cells.specs.Cells.{joined}
use Rattle.cells.specs.declared.Cells.{Cells}
use Rattle.cells.proofs.Words.{cut_below}
use Rattle.cipher.specs.Engine.{engine}
use Rattle.cipher.specs.Numbers.{block_call}
use Rattle.cipher.proofs.Turning.{engine_below}
use Rattle.cipher.proofs.Rounds.{sbox_below, sbox_at_most}
use Rattle.cipher.proofs.Demands.{within, outside_box, outside_few, outside_many}
use Rattle.cipher.proofs.block_call.Goals as goal
use Rattle.cipher.proofs.block_call.Goals.{in-0, in-1, in-2}

pub returns-in_default : goal.returns-in_default
unfolding block_call
returns-in_default g c = outside_box g.W.Width.form.cipher _ _ _ _ (omega (arith, c.in_default))

pub returns-then-rounds-lt3 : goal.returns-then-rounds-lt3
unfolding block_call
returns-then-rounds-lt3 g c =
    let named : c.args.number ≤ 2 = elim c.match-number.branch [ in-0 w ↦ omega (arith, w.in-0) | in-1 w ↦ omega (arith, w.in-1) | in-2 w ↦ omega (arith, w.in-2) ] in
    outside_few g.W.Width.form.cipher _ _ _ _ named (omega arith)

pub returns-then-rounds : goal.returns-then-rounds
unfolding block_call
returns-then-rounds g c =
    let named : c.args.number ≤ 2 = elim c.match-number.branch [ in-0 w ↦ omega (arith, w.in-0) | in-1 w ↦ omega (arith, w.in-1) | in-2 w ↦ omega (arith, w.in-2) ] in
    outside_many g.W.Width.form.cipher _ _ _ _ named (omega arith) (omega (arith, c.rounds.ensures))

pub engine_on_cells-cells-requires : goal.engine_on_cells-cells-requires
engine_on_cells-cells-requires g c = ((omega arith, omega (arith, c.rounds.ensures)), (c.requires, (rw c.of.ensures (cut_below _ _), rw c.of-2.ensures (cut_below _ _))))

pub word-requires : goal.word-requires
word-requires g c =
    rw (c.engine_on_cells-cells.ensures, c.of.ensures, c.of-2.ensures)
    (engine_below g.met.W.Width.lawful c.requires (sbox_below c.match-number.sbox) _ (cut_below _ _) (cut_below _ _))

pub returns : goal.returns
unfolding block_call
returns g c =
    let args = c.args in
    let cipher = g.W.Width.form.cipher in
    let named : sbox_number c.match-number.sbox ≡ args.number = elim c.match-number.branch [
      | in-0 w ↦ ap sbox_number w.sbox-is ∙ sym w.in-0.is
      | in-1 w ↦ ap sbox_number w.sbox-is ∙ sym w.in-1.is
      | in-2 w ↦ ap sbox_number w.sbox-is ∙ sym w.in-2.is
    ] in
    let few : args.number ≤ 2 = rw named at (sbox_at_most c.match-number.sbox) in
    let cells = c.engine_on_cells-cells.ensures
    ∙ ap (λ (b : ℕ). engine cipher b args.rounds args.schedule c.of.result c.of-2.result) named
    ∙ ap₂ (engine cipher args.number args.rounds args.schedule) c.of.ensures c.of-2.ensures in
    ap Ok (c.word.ensures ∙ ap (λ (a : Cells). g.W.Width.form.word (joined cipher.bits a)) cells)
    ∙ within cipher args.number args.rounds _ _ few (omega arith) (omega (arith, c.rounds.ensures))

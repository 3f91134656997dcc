-- `middle` meets its contract: a forward round, the centre, a backward round.
use Rattle.cells.specs.Boxes.{sbox_number}
use Rattle.cells.proofs.Laws.{added_below}
use Rattle.cells.proofs.Lawful.{shuffled_below, mix_below}
use Rattle.cipher.proofs.Rounds.{sbox_below, forward_below, centre_below}
use Rattle.cipher.proofs.Parts.{entered, left, middle_parts}
use Rattle.cipher.proofs.middle.Goals as goal

pub boxed-x-requires : goal.boxed-x-requires
boxed-x-requires g c =
    let k = g.met.W.Width.lawful in
    let pre = c.requires in
    let sum = added_below pre.1.block (added_below pre.0.w1 pre.1.tweak) in
    rw (c.mix.ensures, c.shuffle.ensures, c.add-2.ensures, c.add.ensures) (mix_below k (shuffled_below k sum))

pub unboxed-requires : goal.unboxed-requires
unboxed-requires g c =
    let args = c.args in
    let k = g.met.W.Width.lawful in
    let pre = c.requires in
    let half = entered g.W.Width.form.cipher (sbox_number args.sbox) args.state.block args.state.tweak args.s.w1 args.s.k1
    c.add.ensures c.add-2.ensures c.shuffle.ensures c.mix.ensures c.boxed-x.ensures c.shuffle-2.ensures c.mix-2.ensures c.add-3.ensures c.unshuffle-y.ensures in
    rw half (centre_below k (forward_below k (sbox_below args.sbox) pre.1.block (added_below pre.0.w1 pre.1.tweak)) pre.0.k1)

pub returns : goal.returns
returns g c =
    let args = c.args in
    let cipher = g.W.Width.form.cipher in
    let b = sbox_number args.sbox in
    let half = entered cipher b args.state.block args.state.tweak args.s.w1 args.s.k1
    c.add.ensures c.add-2.ensures c.shuffle.ensures c.mix.ensures c.boxed-x.ensures c.shuffle-2.ensures c.mix-2.ensures c.add-3.ensures c.unshuffle-y.ensures in
    let rest = left cipher b c.unshuffle-y.result args.state.tweak args.s.w0
    c.unboxed.ensures c.mix-3.ensures c.unshuffle.ensures c.add-4.ensures c.add-5.ensures in
    middle_parts cipher b args.s args.state half rest

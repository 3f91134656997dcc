-- `line::write` meets its contract: what sealing answers decides, and then the room.
use mathlib.Core.Path.{sym, ap, ◌∙◌}
use mathlib.Core.List.{List}
use Prim.Native.Nat.{ℕ}
use native.Mathlib.Omega.{arith}
use lib.ListN.{length}
use lib.Seq.{length-take-le}
use Rattle.std.proofs.lemmas.Result.{err_from_is_err_and}
use Rattle.refusals.specs.Refusals.{giving}
use Rattle.line.specs.Line.{line_of}
use Rattle.line.specs.Calls.{frame_of}
use Rattle.line.proofs.Bytes.{taken_most}
use Rattle.line.proofs.Calls.{sealing_wrote, sealing_refused, writes}
use Rattle.line.proofs.write.Goals as goal

-- sealing is refused, and writing too
pub returns-in_err-count : goal.returns-in_err-count
returns-in_err-count c =
    let p = err_from_is_err_and c.from_residual.result c.from_residual.ensures.1 in
    rw (p.1, p.2) (sealing_refused _ _ _ _ _ _ (omega arith) _ _ c.in_err-count.ensures _)

pub slice_bounds-sealed-end : goal.slice_bounds-sealed-end
slice_bounds-sealed-end c =
    let told = sealing_wrote _ _ _ _ _ _ (omega arith) _ _ c.in_ok-count.ensures in
    omega (arith, told.size, told.within.message)

pub slice_bounds-give_line-end : goal.slice_bounds-give_line-end
slice_bounds-give_line-end c =
    let told = sealing_wrote _ _ _ _ _ _ (omega arith) _ _ c.in_ok-count.ensures in
    sym (length-take-le _ _ (omega (arith, told.size, told.within.message)))

pub give_line-requires : goal.give_line-requires
give_line-requires c =
    let told = sealing_wrote _ _ _ _ _ _ (omega arith) _ _ c.in_ok-count.ensures in
    (told.within.label, taken_most _ 1032 _ (omega (arith, told.size, told.within.message)))

pub returns : goal.returns
returns c =
    let args = c.args in
    let told = sealing_wrote _ _ _ _ _ _ (omega arith) _ _ c.in_ok-count.ensures in
    c.give_line.ensures
    ∙ ap (λ (x : List ℕ). giving (line_of (frame_of args.serial args.label.now (length args.message.now) x)) args.out.now) told.bytes
    ∙ writes args.key.w0 args.key.k0 args.serial args.label.now args.message.now args.out.now told.within

-- `line::give_line` meets its contract: the test of the room picks the case. The head, the label and the sealed bytes are written each into its own place, and the 0A behind them.
use Prim.Native.Nat.{◌+◌, ◌*◌}
use mathlib.Core.Path.{◌≡◌, refl}
use native.Mathlib.Omega.{arith}
use lib.ListN.{length}
use Rattle.refusals.proofs.Answers.{gives, gives_none}
use Rattle.line.proofs.Writing.{line_put, line_length_lem}
use Rattle.line.proofs.give_line.Goals as goal

pub returns-then-out-size : goal.returns-then-out-size
returns-then-out-size c = gives_none _ _ _ (line_length_lem _) (omega arith)

pub returns : goal.returns
returns c =
    let args = c.args in
    let a = args.label.now in
    let b = args.sealed.now in
    let at = 20 + 2 * length a in
    let size : 20 + 2 * length a + 2 * length b + 1 ≡ 20 + 2 * (length a + length b) + 1 = omega arith in
    rw (line_put args.out.now c.put_head.new.out c.put_hex.new.out c.put_hex-2.new.out a b args.serial args.n at (at + 2 * length b) (omega arith) refl refl c.put_head.ensures c.put_hex.ensures c.put_hex-2.ensures, size)
    (gives _ _ _ (line_length_lem _) (omega arith))

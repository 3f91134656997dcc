-- `put_message` meets its contract: whole blocks, then the bytes of the last one that count.
use mathlib.Core.Path.{◌≡◌, ap, ◌∙◌}
use Prim.Native.Nat.{ℕ, ◌≤◌, ◌-◌, ◌*◌, ◌/◌, ◌^◌}
use native.Mathlib.Omega.{arith}
use lib.ListN.{length, get_or, take, drop, length-take, length-drop}
use Rattle.words.specs.Digits.{digits}
use Rattle.frame.proofs.Laws.{put_words, put_none, put_last}
use Rattle.frame.proofs.put_message.Goals as goal

pub returns-then-at-n : goal.returns-then-at-n
returns-then-at-n c =
    let args = c.args in
    let h : args.n / 8 ≤ length args.plain.now = omega arith in
    let out = c.put.new.out in
    put_none args.n (λ i. get_or args.plain.now i 0) args.out.now out
    (put_words (args.n / 8) args.plain.now args.out.now out h c.put.ensures) (omega arith)

pub returns : goal.returns
returns c =
    let args = c.args in
    let n = args.n in
    let l = args.plain.now in
    let h : n / 8 ≤ length l = omega arith in
    let out = c.put.new.out in
    let left : length (take (n - n / 8 * 8) (drop (n / 8 * 8) out)) ≡ n - n / 8 * 8 = simp (length-take, length-drop) (omega arith) in
    put_last n (λ i. get_or l i 0) args.out.now out c.write.new.out
    (put_words (n / 8) l args.out.now out h c.put.ensures) (omega arith)
    (c.write.ensures ∙ ap (λ (k : ℕ). digits 8 k (get_or l (n / 8) 0 / 2 ^ (64 - (n - n / 8 * 8) * 8))) left)

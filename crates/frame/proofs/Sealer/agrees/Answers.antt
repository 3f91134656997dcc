-- `agrees` meets its contract: no bit of the fill and none of the tag differs, and one comparison says so.
use mathlib.Core.Bool.{false}
use mathlib.Core.Path.{◌≡◌, ap, ap₂, ◌∙◌}
use Prim.Native.Nat.{◌-◌, ◌*◌, ◌+◌}
use native.Mathlib.Omega.{arith}
use lib.Dec.{eqb, lit<}
use Rattle.words.specs.Cases.{if_yes}
use Rattle.words.specs.Digits.{◌⊕◌}
use Rattle.words.proofs.Laws.{bytes, part_fits}
use Rattle.cells64.specs.Qarma64.{qarma64}
use Rattle.cipher.specs.Engine.{turned}
use Rattle.frame.specs.Blocks.{blocks}
use Rattle.frame.specs.Frames.{opened_block, accepted, tag_of}
use Rattle.frame.proofs.Differences.{difference, both_none}
use Rattle.frame.proofs.Laws.{words_sum, fill_same}
use Rattle.frame.proofs.Sealer.agrees.Goals as goal

-- the tag's eight bytes are a word
pub read-requires : goal.read-requires
read-requires c = (lit< tt, part_fits (blocks c.args.self.n * 8) (bytes c.args.sealed.now c.type_inv.sealed))

-- no bit differs exactly where fill and tag agree
pub returns : goal.returns
unfolding accepted
returns c =
    let self = c.args.self in
    let n = self.n in
    let plain = c.args.plain.now in
    let f = opened_block (turned qarma64 self.schedule.now) self.serial n c.args.sealed.now in
    let fill = c.fill_difference.ensures ∙ fill_same n f plain c.requires.opened in
    let total = c.sum_words.ensures ∙ words_sum (blocks n) f plain c.requires.opened in
    let made = c.tag-t.ensures ∙ ap (tag_of self.schedule.now self.serial self.label.now n) total in
    let eight : blocks n * 8 + 8 - blocks n * 8 ≡ 8 = omega arith in
    let read = rw eight at c.read.ensures in
    both_none c.fill_difference.result (c.tag-t.result ⊕ c.read.result)
    ∙ ap₂ (λ x y. if_yes x y false) fill (difference c.tag-t.result c.read.result ∙ ap₂ eqb made read)

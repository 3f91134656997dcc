-- `fill` meets its contract: eight bytes are a word, and fewer are shifted up behind their mark.
use mathlib.Core.Path.{ap, ◌∙◌}
use native.Mathlib.Omega.{arith}
use lib.Dec.{lit<}
use Rattle.words.specs.Digits.{word}
use Rattle.words.proofs.Laws.{bytes, word_fits}
use Rattle.frame.proofs.Laws.{whole_filled, fill_word, fills}
use Rattle.frame.proofs.fill.Goals as goal

pub read-x-requires : goal.read-x-requires
read-x-requires c = (lit< tt, word_fits (bytes c.args.part.now c.type_inv.part) (omega arith))

pub returns-then-added-eq0 : goal.returns-then-added-eq0
returns-then-added-eq0 c =
    let part = c.args.part.now in
    (fills part _ _ (omega arith) (c.read-x.ensures ∙ ap (word 8) (whole_filled part (omega arith))) (omega arith), omega arith)

pub returns-else-added-eq0 : goal.returns-else-added-eq0
returns-else-added-eq0 c =
    let part = c.args.part.now in
    (fills part _ _ (omega arith) (rw c.read-x.ensures (fill_word (bytes part c.type_inv.part) (omega arith))) (omega arith), omega arith)

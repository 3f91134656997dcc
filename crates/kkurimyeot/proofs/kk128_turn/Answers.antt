-- `kk128_turn` meets its contract: what the cipher answers, through C.
use Rattle.cells128.specs.declared.Pair.{Pair}
use mathlib.Core.Path.{ap, ◌∙◌}
use Rattle.cipher128.specs.Words.{turned_words}
use Rattle.cipher.specs.declared.Words.{Words}
use Rattle.kkurimyeot.specs.Calls.{words_given, four_words128, returning}
use Rattle.kkurimyeot.proofs.kk128_turn.Goals as goal

pub returns : goal.returns
returns c =
    let out = c.args.out.now in
    c.give_words.ensures
    ∙ ap (λ (s : Words Pair). returning (words_given (four_words128 s) out)) (c.turn_words.ensures ∙ ap turned_words c.four-words.ensures)

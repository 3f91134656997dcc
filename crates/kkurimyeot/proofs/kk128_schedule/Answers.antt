-- `kk128_schedule` meets its contract: what the cipher answers, through C.
use Rattle.cells128.specs.declared.Pair.{Pair}
use mathlib.Core.Path.{ap, ◌∙◌}
use Rattle.cipher.specs.Numbers.{key_words}
use Rattle.cipher128.specs.Words.{form128}
use Rattle.cipher.specs.declared.Words.{Words}
use Rattle.kkurimyeot.specs.Calls.{words_given, four_words128, returning}
use Rattle.kkurimyeot.proofs.kk128_schedule.Goals as goal

pub returns : goal.returns
returns c =
    let out = c.args.out.now in
    c.give_words.ensures
    ∙ ap (λ (s : Words Pair). returning (words_given (four_words128 s) out)) (c.key_words.ensures ∙ ap (key_words form128) c.key.ensures)

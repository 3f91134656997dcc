-- `kk_schedule` meets its contract: what the cipher answers, through C.
use Rattle.std.specs.Prelude.{ℕ}
use mathlib.Core.Path.{ap, ◌∙◌}
use Rattle.cipher.specs.declared.Words.{Words}
use Rattle.kkurimyeot.specs.Calls.{words_given, four_words, returning}
use Rattle.kkurimyeot.proofs.kk_schedule.Goals as goal

pub returns : goal.returns
returns c =
    let out = c.args.out.now in
    c.give_words.ensures ∙ ap (λ (b : Words ℕ). returning (words_given (four_words b) out)) c.key_words.ensures

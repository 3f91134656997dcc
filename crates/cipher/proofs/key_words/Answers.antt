-- `key_words` meets its contract: the words of the key's schedule, whose cells have the bits that joining needs.
use Rattle.std.proofs.Common.{ap, ◌∙◌}
use Rattle.cipher.specs.Numbers.{joined_words}
use Rattle.cipher.proofs.Demands.{schedule_below}
use Rattle.cipher.proofs.key_words.Goals as goal

pub words_of-requires : goal.words_of-requires
words_of-requires g c = rw c.key_schedule.ensures (schedule_below _ _ _ _ _)

pub returns : goal.returns
returns g c = c.words_of.ensures ∙ ap (joined_words g.W.Width.form) c.key_schedule.ensures

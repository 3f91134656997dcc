-- `turn_words` meets its contract: cut, turned and joined again.
use Rattle.std.proofs.Common.{ap, ◌∙◌}
use Rattle.cipher.specs.Engine.{turned}
use Rattle.cipher.specs.Numbers.{joined_words}
use Rattle.cipher.proofs.Rounds.{turned_below}
use Rattle.cipher.proofs.Demands.{schedule_below}
use Rattle.cipher.proofs.turn_words.Goals as goal

pub words_of-requires : goal.words_of-requires
words_of-requires g c = rw (c.turn.ensures, c.schedule_of.ensures) (turned_below g.met.W.Width.lawful (schedule_below _ _ _ _ _))

pub returns : goal.returns
returns g c = c.words_of.ensures ∙ ap (joined_words g.W.Width.form) (c.turn.ensures ∙ ap (turned g.W.Width.form.cipher) c.schedule_of.ensures)

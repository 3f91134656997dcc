-- One outcome: each public contract of `cipher` leaves one answer and one content of lent memory.
use Rattle.std.proofs.Common.{refl, sym, ◌∙◌}
use denote.Param.Laws.{Laws, IsCopy}
use denote.RattleType.{RattleType}
use mir.Syntax.{Dict}
use Rattle.std.specs.declared.clone.Clone
use Rattle.words.proofs.Decided.{Decided}
use Rattle.cipher.proofs
use Rattle.cipher.specs.declared.Width

pub turn_decided : Decided proofs.Schedule.turn.Kinds.ps proofs.Schedule.turn.Kinds.r proofs.Schedule.turn.Reads.Post
turn_decided κs a x y v w p q = (p ∙ sym q, refl)

pub forward_word_decided : Decided proofs.Schedule.forward_word.Kinds.ps proofs.Schedule.forward_word.Kinds.r proofs.Schedule.forward_word.Reads.Post
forward_word_decided κs a x y v w p q = (p ∙ sym q, refl)

pub backward_word_decided : Decided proofs.Schedule.backward_word.Kinds.ps proofs.Schedule.backward_word.Kinds.r proofs.Schedule.backward_word.Reads.Post
backward_word_decided κs a x y v w p q = (p ∙ sym q, refl)

-- those over the width, of every width and type of words
module _ (W A : RattleType) (l : Laws W) (m : Laws A) (c : IsCopy A) (g : Width.Ghosts W.Denot A.Denot) (d : Dict) (k : Clone.Ghosts A.Denot) (e : Dict) where
  pub schedule_of_decided : Decided (proofs.schedule_of.Kinds.ps W A l m c) (proofs.schedule_of.Kinds.r W A l m c) (proofs.schedule_of.Reads.Post W A l m c g d k e)
  schedule_of_decided κs a x y v w p q = (p ∙ sym q, refl)

  pub key_schedule_decided : Decided (proofs.key_schedule.Kinds.ps W A l m c) (proofs.key_schedule.Kinds.r W A l m c) (proofs.key_schedule.Reads.Post W A l m c g d k e)
  key_schedule_decided κs a x y v w p q = (p ∙ sym q, refl)

  pub words_of_decided : Decided (proofs.words_of.Kinds.ps W A l m c) (proofs.words_of.Kinds.r W A l m c) (proofs.words_of.Reads.Post W A l m c g d k e)
  words_of_decided κs a x y v w p q = (p ∙ sym q, refl)

  pub turn_schedule_decided : Decided (proofs.turn.Kinds.ps W A l m c) (proofs.turn.Kinds.r W A l m c) (proofs.turn.Reads.Post W A l m c g d k e)
  turn_schedule_decided κs a x y v w p q = (p ∙ sym q, refl)

  pub engine_on_cells_decided : Decided (proofs.engine_on_cells.Kinds.ps W A l m c) (proofs.engine_on_cells.Kinds.r W A l m c) (proofs.engine_on_cells.Reads.Post W A l m c g d k e)
  engine_on_cells_decided κs a x y v w p q = (p ∙ sym q, refl)

  pub key_words_decided : Decided (proofs.key_words.Kinds.ps W A l m c) (proofs.key_words.Kinds.r W A l m c) (proofs.key_words.Reads.Post W A l m c g d k e)
  key_words_decided κs a x y v w p q = (p ∙ sym q, refl)

  pub turn_words_decided : Decided (proofs.turn_words.Kinds.ps W A l m c) (proofs.turn_words.Kinds.r W A l m c) (proofs.turn_words.Reads.Post W A l m c g d k e)
  turn_words_decided κs a x y v w p q = (p ∙ sym q, refl)

  pub engine_decided : Decided (proofs.engine.Kinds.ps W A l m c) (proofs.engine.Kinds.r W A l m c) (proofs.engine.Reads.Post W A l m c g d k e)
  engine_decided κs a x y v w p q = (p ∙ sym q, refl)

  pub encipher_decided : Decided (proofs.encipher.Kinds.ps W A l m c) (proofs.encipher.Kinds.r W A l m c) (proofs.encipher.Reads.Post W A l m c g d k e)
  encipher_decided κs a x y v w p q = (p ∙ sym q, refl)

  pub decipher_decided : Decided (proofs.decipher.Kinds.ps W A l m c) (proofs.decipher.Kinds.r W A l m c) (proofs.decipher.Reads.Post W A l m c g d k e)
  decipher_decided κs a x y v w p q = (p ∙ sym q, refl)

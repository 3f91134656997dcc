-- One outcome: each public contract of `cells128` leaves one answer and one content of lent memory.
use mathlib.Core.Path.{refl, sym, ◌∙◌}
use Rattle.words.proofs.Decided.{Decided}
use Rattle.cells128.proofs

pub of_decided : Decided proofs.of.Kinds.ps proofs.of.Kinds.r proofs.of.Reads.Post
of_decided κs a x y v w p q = (p ∙ sym q, refl)

pub word_decided : Decided proofs.word.Kinds.ps proofs.word.Kinds.r proofs.word.Reads.Post
word_decided κs a x y v w p q = (p ∙ sym q, refl)

pub boxed_decided : Decided proofs.boxed.Kinds.ps proofs.boxed.Kinds.r proofs.boxed.Reads.Post
boxed_decided κs a x y v w p q = (p ∙ sym q, refl)

pub unboxed_decided : Decided proofs.unboxed.Kinds.ps proofs.unboxed.Kinds.r proofs.unboxed.Reads.Post
unboxed_decided κs a x y v w p q = (p ∙ sym q, refl)

pub mix_decided : Decided proofs.mix.Kinds.ps proofs.mix.Kinds.r proofs.mix.Reads.Post
mix_decided κs a x y v w p q = (p ∙ sym q, refl)

pub step_decided : Decided proofs.step.Kinds.ps proofs.step.Kinds.r proofs.step.Reads.Post
step_decided κs a x y v w p q = (p ∙ sym q, refl)

pub unstep_decided : Decided proofs.unstep.Kinds.ps proofs.unstep.Kinds.r proofs.unstep.Reads.Post
unstep_decided κs a x y v w p q = (p ∙ sym q, refl)

-- One outcome: each public contract of `cipher128` leaves one answer and one content of lent memory.
use Rattle.std.proofs.Common.{refl, sym, ◌∙◌}
use Rattle.words.proofs.Decided.{Decided}
use Rattle.cipher128.proofs

pub of_decided : Decided proofs.Qarma128Width.of.Kinds.ps proofs.Qarma128Width.of.Kinds.r proofs.Qarma128Width.of.Reads.Post
of_decided κs a x y v w p q = (p ∙ sym q, refl)

pub word_decided : Decided proofs.Qarma128Width.word.Kinds.ps proofs.Qarma128Width.word.Kinds.r proofs.Qarma128Width.word.Reads.Post
word_decided κs a x y v w p q = (p ∙ sym q, refl)

pub boxed_decided : Decided proofs.Qarma128Width.boxed.Kinds.ps proofs.Qarma128Width.boxed.Kinds.r proofs.Qarma128Width.boxed.Reads.Post
boxed_decided κs a x y v w p q = (p ∙ sym q, refl)

pub unboxed_decided : Decided proofs.Qarma128Width.unboxed.Kinds.ps proofs.Qarma128Width.unboxed.Kinds.r proofs.Qarma128Width.unboxed.Reads.Post
unboxed_decided κs a x y v w p q = (p ∙ sym q, refl)

pub mix_decided : Decided proofs.Qarma128Width.mix.Kinds.ps proofs.Qarma128Width.mix.Kinds.r proofs.Qarma128Width.mix.Reads.Post
mix_decided κs a x y v w p q = (p ∙ sym q, refl)

pub step_decided : Decided proofs.Qarma128Width.step.Kinds.ps proofs.Qarma128Width.step.Kinds.r proofs.Qarma128Width.step.Reads.Post
step_decided κs a x y v w p q = (p ∙ sym q, refl)

pub unstep_decided : Decided proofs.Qarma128Width.unstep.Kinds.ps proofs.Qarma128Width.unstep.Kinds.r proofs.Qarma128Width.unstep.Reads.Post
unstep_decided κs a x y v w p q = (p ∙ sym q, refl)

pub alpha_decided : Decided proofs.Qarma128Width.alpha.Kinds.ps proofs.Qarma128Width.alpha.Kinds.r proofs.Qarma128Width.alpha.Reads.Post
alpha_decided κs a x y v w p q = (p ∙ sym q, refl)

pub constant_decided : Decided proofs.Qarma128Width.constant.Kinds.ps proofs.Qarma128Width.constant.Kinds.r proofs.Qarma128Width.constant.Reads.Post
constant_decided κs a x y v w p q = (p ∙ sym q, refl)

pub w1_from_decided : Decided proofs.Qarma128Width.w1_from.Kinds.ps proofs.Qarma128Width.w1_from.Kinds.r proofs.Qarma128Width.w1_from.Reads.Post
w1_from_decided κs a x y v w p q = (p ∙ sym q, refl)

pub rounds_decided : Decided proofs.Qarma128Width.rounds.Kinds.ps proofs.Qarma128Width.rounds.Kinds.r proofs.Qarma128Width.rounds.Reads.Post
rounds_decided κs a x y v w p q = (p ∙ sym q, refl)

pub engine_on_cells_decided : Decided proofs.engine_on_cells.Kinds.ps proofs.engine_on_cells.Kinds.r proofs.engine_on_cells.Reads.Post
engine_on_cells_decided κs a x y v w p q = (p ∙ sym q, refl)

-- One outcome: each public contract of `refusals` leaves one answer and one content of lent memory.
use mathlib.Core.Path.{refl, sym, ◌∙◌}
use Rattle.words.proofs.Decided.{Decided}
use Rattle.refusals.proofs

pub number_decided : Decided proofs.Refusal.number.Kinds.ps proofs.Refusal.number.Kinds.r proofs.Refusal.number.Reads.Post
number_decided κs a x y v w p q = (p ∙ sym q, refl)

pub place_decided : Decided proofs.Refusal.place.Kinds.ps proofs.Refusal.place.Kinds.r proofs.Refusal.place.Reads.Post
place_decided κs a x y v w p q = (p ∙ sym q, refl)

pub returned_decided : Decided proofs.returned.Kinds.ps proofs.returned.Kinds.r proofs.returned.Reads.Post
returned_decided κs a x y v w p q = (p ∙ sym q, refl)

-- One outcome: each public contract of `changes` leaves one answer and one content of lent memory.
use mathlib.Core.Path.{refl, sym, ◌∙◌}
use Rattle.words.proofs.Decided.{Decided}
use Rattle.changes.proofs

pub compare_decided : Decided proofs.compare.Kinds.ps proofs.compare.Kinds.r proofs.compare.Reads.Post
compare_decided κs a x y v w p q = ((λ i. ((p ∙ sym q) i).0), λ i. (tt, (tt, (((p ∙ sym q) i).1, tt))))

pub returned_decided : Decided proofs.returned.Kinds.ps proofs.returned.Kinds.r proofs.returned.Reads.Post
returned_decided κs a x y v w p q = (p ∙ sym q, refl)

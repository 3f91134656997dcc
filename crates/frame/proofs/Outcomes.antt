-- One outcome: each public contract of `frame` leaves one answer and one content of lent memory.
use mathlib.Core.Path.{refl, sym, ◌∙◌}
use Rattle.words.proofs.Decided.{Decided}
use Rattle.frame.proofs

pub sealed_size_decided : Decided proofs.sealed_size.Kinds.ps proofs.sealed_size.Kinds.r proofs.sealed_size.Reads.Post
sealed_size_decided κs a x y v w p q = (p ∙ sym q, refl)

pub seal_decided : Decided proofs.seal.Kinds.ps proofs.seal.Kinds.r proofs.seal.Reads.Post
seal_decided κs a x y v w p q = ((λ i. ((p ∙ sym q) i).0), λ i. (tt, (tt, (tt, (tt, (((p ∙ sym q) i).1, tt))))))

pub open_decided : Decided proofs.open.Kinds.ps proofs.open.Kinds.r proofs.open.Reads.Post
open_decided κs a x y v w p q = ((λ i. ((p ∙ sym q) i).0), λ i. (tt, (tt, (tt, (tt, (tt, (((p ∙ sym q) i).1, tt)))))))

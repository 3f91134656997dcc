-- One outcome: each public contract of `words` leaves one answer and one content of lent memory.
use mathlib.Core.Path.{refl, sym, ◌∙◌}
use Rattle.words.proofs.Decided.{Decided}
use Rattle.words.proofs

pub read_decided : Decided proofs.read.Kinds.ps proofs.read.Kinds.r proofs.read.Reads.Post
read_decided κs a x y v w p q = (p ∙ sym q, refl)

pub write_decided : Decided proofs.write.Kinds.ps proofs.write.Kinds.r proofs.write.Reads.Post
write_decided κs a x y v w p q = (refl, λ i. ((p ∙ sym q) i, (tt, (tt, tt))))

pub put_decided : Decided proofs.put.Kinds.ps proofs.put.Kinds.r proofs.put.Reads.Post
put_decided κs a x y v w p q = (refl, λ i. (tt, ((p ∙ sym q) i, tt)))

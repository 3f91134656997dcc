-- One outcome: each public contract of `line` leaves one answer and one content of lent memory.
use mathlib.Core.Path.{refl, sym, ◌∙◌}
use Rattle.words.proofs.Decided.{Decided}
use Rattle.line.proofs
use Rattle.line.proofs.Places.{reads_one}

pub digit_at_decided : Decided proofs.digit_at.Kinds.ps proofs.digit_at.Kinds.r proofs.digit_at.Reads.Post
digit_at_decided κs a x y v w p q = (p ∙ sym q, refl)

pub number_at_decided : Decided proofs.number_at.Kinds.ps proofs.number_at.Kinds.r proofs.number_at.Reads.Post
number_at_decided κs a x y v w p q = (p ∙ sym q, refl)

pub read_decided : Decided proofs.read.Kinds.ps proofs.read.Kinds.r proofs.read.Reads.Post
read_decided κs a x y v w p q = (reads_one _ x y p q, refl)

pub write_decided : Decided proofs.write.Kinds.ps proofs.write.Kinds.r proofs.write.Reads.Post
write_decided κs a x y v w p q = ((λ i. ((p ∙ sym q) i).0), λ i. (tt, (tt, (tt, (tt, (((p ∙ sym q) i).1, tt))))))

pub open_decided : Decided proofs.open.Kinds.ps proofs.open.Kinds.r proofs.open.Reads.Post
open_decided κs a x y v w p q = ((λ i. ((p ∙ sym q) i).0), λ i. (tt, (tt, (((p ∙ sym q) i).1, tt))))

-- One outcome: each public contract of `texts` leaves one answer and one content of lent memory.
use mathlib.Core.Path.{sym, ◌∙◌}
use Rattle.words.proofs.Decided.{Decided}
use Rattle.texts.proofs.Texts.{one_end, one_text}
use Rattle.texts.proofs

pub append_decided : Decided proofs.append.Kinds.ps proofs.append.Kinds.r proofs.append.Reads.Post
append_decided κs a x y v w p q = (one_end p q, λ i. (one_text p q i, (tt, (tt, tt))))

pub append_decimal_decided : Decided proofs.append_decimal.Kinds.ps proofs.append_decimal.Kinds.r proofs.append_decimal.Reads.Post
append_decimal_decided κs a x y v w p q = (one_end p.0 q.0, λ i. (one_text p.0 q.0 i, (tt, (tt, tt))))

pub line_end_decided : Decided proofs.line_end.Kinds.ps proofs.line_end.Kinds.r proofs.line_end.Reads.Post
line_end_decided κs a x y v w p q = (p ∙ sym q, λ i. (tt, (tt, tt)))

pub count_lines_decided : Decided proofs.count_lines.Kinds.ps proofs.count_lines.Kinds.r proofs.count_lines.Reads.Post
count_lines_decided κs a x y v w p q = (p ∙ sym q, λ i. (tt, tt))

-- One outcome: each public contract of `kkurimyeot` leaves one answer and one content of lent memory.
use mathlib.Core.Path.{◌≡◌, sym, ap, ◌∙◌}
use mathlib.Core.List.{List}
use Prim.Native.Nat.{ℕ}
use Rattle.words.proofs.Decided.{Decided}
use Rattle.line.specs.Line.{Reading}
use Rattle.line.proofs.Places.{reads_one}
use Rattle.kkurimyeot.specs.Calls.{returning, reading_given, GivesReading}
use Rattle.kkurimyeot.proofs

one_reading : {s out : List ℕ} {x y : ℕ × List ℕ} → GivesReading s out x → GivesReading s out y → x ≡ y
one_reading {s} {out} p q = p.gives ∙ ap (λ (r : Reading). returning (reading_given r out)) (reads_one s p.answer q.answer p.reads q.reads) ∙ sym q.gives

pub schedule_decided : Decided proofs.kk_schedule.Kinds.ps proofs.kk_schedule.Kinds.r proofs.kk_schedule.Reads.Post
schedule_decided κs a x y v w p q = ((λ i. ((p ∙ sym q) i).0), λ i. (tt, (tt, (((p ∙ sym q) i).1, tt))))

pub turn_decided : Decided proofs.kk_turn.Kinds.ps proofs.kk_turn.Kinds.r proofs.kk_turn.Reads.Post
turn_decided κs a x y v w p q = ((λ i. ((p ∙ sym q) i).0), λ i. (tt, (tt, (tt, (tt, (((p ∙ sym q) i).1, tt))))))

pub engine_decided : Decided proofs.kk_engine.Kinds.ps proofs.kk_engine.Kinds.r proofs.kk_engine.Reads.Post
engine_decided κs a x y v w p q = ((λ i. ((p ∙ sym q) i).0), λ i. (tt, (tt, (tt, (tt, (tt, (tt, (tt, (tt, (((p ∙ sym q) i).1, tt))))))))))

pub encipher_decided : Decided proofs.kk_encipher.Kinds.ps proofs.kk_encipher.Kinds.r proofs.kk_encipher.Reads.Post
encipher_decided κs a x y v w p q = ((λ i. ((p ∙ sym q) i).0), λ i. (tt, (tt, (tt, (tt, (tt, (tt, (((p ∙ sym q) i).1, tt))))))))

pub decipher_decided : Decided proofs.kk_decipher.Kinds.ps proofs.kk_decipher.Kinds.r proofs.kk_decipher.Reads.Post
decipher_decided κs a x y v w p q = ((λ i. ((p ∙ sym q) i).0), λ i. (tt, (tt, (tt, (tt, (tt, (tt, (((p ∙ sym q) i).1, tt))))))))

pub schedule128_decided : Decided proofs.kk128_schedule.Kinds.ps proofs.kk128_schedule.Kinds.r proofs.kk128_schedule.Reads.Post
schedule128_decided κs a x y v w p q = ((λ i. ((p ∙ sym q) i).0), λ i. (tt, (tt, (tt, (tt, (((p ∙ sym q) i).1, tt))))))

pub turn128_decided : Decided proofs.kk128_turn.Kinds.ps proofs.kk128_turn.Kinds.r proofs.kk128_turn.Reads.Post
turn128_decided κs a x y v w p q = ((λ i. ((p ∙ sym q) i).0), λ i. (tt, (tt, (tt, (tt, (tt, (tt, (tt, (tt, (((p ∙ sym q) i).1, tt))))))))))

pub engine128_decided : Decided proofs.kk128_engine.Kinds.ps proofs.kk128_engine.Kinds.r proofs.kk128_engine.Reads.Post
engine128_decided κs a x y v w p q = ((λ i. ((p ∙ sym q) i).0), λ i. (tt, (tt, (tt, (tt, (tt, (tt, (tt, (tt, (tt, (tt, (tt, (tt, (tt, (tt, (((p ∙ sym q) i).1, tt))))))))))))))))

pub encipher128_decided : Decided proofs.kk128_encipher.Kinds.ps proofs.kk128_encipher.Kinds.r proofs.kk128_encipher.Reads.Post
encipher128_decided κs a x y v w p q = ((λ i. ((p ∙ sym q) i).0), λ i. (tt, (tt, (tt, (tt, (tt, (tt, (tt, (tt, (tt, (tt, (((p ∙ sym q) i).1, tt))))))))))))

pub decipher128_decided : Decided proofs.kk128_decipher.Kinds.ps proofs.kk128_decipher.Kinds.r proofs.kk128_decipher.Reads.Post
decipher128_decided κs a x y v w p q = ((λ i. ((p ∙ sym q) i).0), λ i. (tt, (tt, (tt, (tt, (tt, (tt, (tt, (tt, (tt, (tt, (((p ∙ sym q) i).1, tt))))))))))))

pub seal_decided : Decided proofs.kk_seal.Kinds.ps proofs.kk_seal.Kinds.r proofs.kk_seal.Reads.Post
seal_decided κs a x y v w p q =
    ((λ i. ((p ∙ sym q) i).0), λ i. (tt, (tt, (tt, (tt, (tt, (((p ∙ sym q) i).1, tt)))))))

pub open_decided : Decided proofs.kk_open.Kinds.ps proofs.kk_open.Kinds.r proofs.kk_open.Reads.Post
open_decided κs a x y v w p q =
    ((λ i. ((p ∙ sym q) i).0), λ i. (tt, (tt, (tt, (tt, (tt, (tt, (((p ∙ sym q) i).1, tt))))))))

pub read_line_decided : Decided proofs.kk_read_line.Kinds.ps proofs.kk_read_line.Kinds.r proofs.kk_read_line.Reads.Post
read_line_decided κs a x y v w p q = let e = one_reading p q in ((λ i. (e i).0), λ i. (tt, ((e i).1, tt)))

pub write_line_decided : Decided proofs.kk_write_line.Kinds.ps proofs.kk_write_line.Kinds.r proofs.kk_write_line.Reads.Post
write_line_decided κs a x y v w p q = ((λ i. ((p ∙ sym q) i).0), λ i. (tt, (tt, (tt, (tt, (tt, (((p ∙ sym q) i).1, tt)))))))

pub open_line_decided : Decided proofs.kk_open_line.Kinds.ps proofs.kk_open_line.Kinds.r proofs.kk_open_line.Reads.Post
open_line_decided κs a x y v w p q = ((λ i. ((p ∙ sym q) i).0), λ i. (tt, (tt, (tt, (((p ∙ sym q) i).1, tt)))))

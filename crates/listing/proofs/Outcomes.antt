-- One outcome: each public contract of `listing` leaves one answer and one content of lent memory.
use mathlib.Core.Path.{◌≡◌, refl, sym, ◌∙◌}
use mathlib.Core.List.{List}
use Prim.Native.Nat.{ℕ}
use Rattle.words.proofs.Decided.{Decided}
use Rattle.listing.specs.Chunks.{Feeds}
use Rattle.listing.specs.declared.Lister.{Lister}
use Rattle.listing.specs.declared.Gathered.{Gathered}
use Rattle.listing.specs.declared.Fed.{Fed}
use Rattle.texts.proofs.Texts.{one_end, one_text}
use Rattle.listing.proofs

one_feeding : {t : Lister} {s : List ℕ} {g : Gathered × List ℕ} {d k l m n o p : List ℕ} {r q : Fed} {u v : Lister} (a : Feeds t s g d r u k m o) (b : Feeds t s g d q v l n p) → r ≡ q
one_feeding a b = λ i. record { taken = (a.taken ∙ sym b.taken) i; said = one_end a.text b.text i }

pub new_decided : Decided proofs.Lister.new.Kinds.ps proofs.Lister.new.Kinds.r proofs.Lister.new.Reads.Post
new_decided κs a x y v w p q = (p ∙ sym q, refl)

pub feed_decided : Decided proofs.Lister.feed.Kinds.ps proofs.Lister.feed.Kinds.r proofs.Lister.feed.Reads.Post
feed_decided κs a x y v w p q =
    (one_feeding p q, λ i. ((p.state ∙ sym q.state) i, ((p.line ∙ sym q.line) i, ((p.serials ∙ sym q.serials) i, (tt, (one_text p.text q.text i, tt))))))

pub finish_decided : Decided proofs.Lister.finish.Kinds.ps proofs.Lister.finish.Kinds.r proofs.Lister.finish.Reads.Post
finish_decided κs a x y v w p q = (one_end p.text q.text, λ i. ((p.state ∙ sym q.state) i, (tt, ((p.serials ∙ sym q.serials) i, (one_text p.text q.text i, tt)))))

pub close_decided : Decided proofs.Lister.close.Kinds.ps proofs.Lister.close.Kinds.r proofs.Lister.close.Reads.Post
close_decided κs a x y v w p q = (one_end p q, λ i. (tt, (one_text p q i, tt)))

-- Byte by byte: fed from the start with all the bytes of an input, and closed, the listing.
use Prim.Native.Nat.{ℕ}
use mathlib.Core.Bool.{cond}
use mathlib.Core.Path.{◌≡◌, refl, sym, ap, ◌∙◌}
use mathlib.Core.List.{List, [], ◌∷◌, ◌++◌, append_assoc, append-nil}
use borrow.Author.Tests.{eq-eqb, ne_eqb}
use lib.Dec.{eqb}
use lib.ListN.{length}
use lib.Seq.{append_snoc}
use Rattle.words.proofs.Cases.{by_eq}
use Rattle.texts.specs.Lines.{lines_of}
use Rattle.listing.specs.Listing.{serials_max, listing}
use Rattle.listing.specs.Chunks.{start, ending, closing}
use Rattle.listing.specs.declared.Lister.{Lister}
use Rattle.listing.proofs.Lines.{rest, rest_all}

-- the state, the memory of the serials, the bytes of the line that has not ended, and what has been printed
pub record Sofar : Type 0 where
  pub state : Lister
  pub serials : List ℕ
  pub part : List ℕ
  pub said : List ℕ

abbrev pub began : List ℕ → Sofar
began m = record { state = start; serials = m; part = []; said = [] }

-- a line l ends here
abbrev pub brings : Sofar → List ℕ → Lister × List ℕ × List ℕ
brings st l = ending st.state st.serials l

abbrev pub ended : Sofar → List ℕ → Sofar
ended st l = record { state = (brings st l).0; serials = (brings st l).1; part = []; said = st.said ++ (brings st l).2 }

abbrev pub longer : Sofar → List ℕ → Sofar
longer st l = record { state = st.state; serials = st.serials; part = l; said = st.said }

unfoldable pub step : Sofar → ℕ → Sofar
step st b = cond (eqb b 10) (ended st (st.part ++ b ∷ [])) (longer st (st.part ++ b ∷ []))

unfoldable pub fed : Sofar → List ℕ → Sofar
fed st [] = st
fed st (b ∷ s) = fed (step st b) s

pub fed_append : (st : Sofar) (x y : List ℕ) → fed st (x ++ y) ≡ fed (fed st x) y
unfolding fed
fed_append st [] y = refl
fed_append st (b ∷ x) y = fed_append (step st b) x y

-- all that is printed, if the input ends here
abbrev pub all_as : Sofar → List ℕ → List ℕ
all_as st [] = st.said ++ closing st.state
all_as st (b ∷ p) = (st.said ++ (brings st (b ∷ p)).2) ++ closing (brings st (b ∷ p)).0

abbrev NoEnd : List ℕ → Type 0
NoEnd [] = Unit
NoEnd (b ∷ p) = (b ≡ 10 → ⊥) × NoEnd p

no_end_snoc : (p : List ℕ) (b : ℕ) → NoEnd p → (b ≡ 10 → ⊥) → NoEnd (p ++ b ∷ [])
no_end_snoc [] b n h = (h, tt)
no_end_snoc (x ∷ p) b n h = (n.0, no_end_snoc p b n.1 h)

line_ended : (p x : List ℕ) → NoEnd p → lines_of (p ++ 10 ∷ x) ≡ (p ++ 10 ∷ []) ∷ lines_of x
unfolding lines_of
line_ended [] x n = refl
line_ended (b ∷ p) x n = rw (ne_eqb b 10 n.0, line_ended p x n.1)

line_open : (b : ℕ) (p : List ℕ) → NoEnd (b ∷ p) → lines_of (b ∷ p) ≡ (b ∷ p) ∷ []
unfolding lines_of
line_open b [] n = rw (ne_eqb b 10 n.0)
line_open b (x ∷ p) n = rw (ne_eqb b 10 n.0, line_open x p n.1)

pub step_ended : (st : Sofar) (b : ℕ) → b ≡ 10 → step st b ≡ ended st (st.part ++ b ∷ [])
unfolding step
step_ended st b e = simp (eq-eqb b 10 e)

pub step_longer : (st : Sofar) (b : ℕ) → (b ≡ 10 → ⊥) → step st b ≡ longer st (st.part ++ b ∷ [])
unfolding step
step_longer st b e = simp (ne_eqb b 10 e)

-- what is printed of lines from here on
abbrev from : Sofar → List (List ℕ) → List ℕ
from st ls = st.said ++ rest st.state st.serials ls

all_open : (st : Sofar) (p : List ℕ) → NoEnd p → all_as st p ≡ from st (lines_of p)
unfolding lines_of
all_open st [] n = refl
all_open st (b ∷ p) n =
    append_assoc st.said (brings st (b ∷ p)).2 (closing (brings st (b ∷ p)).0)
    ∙ ap (from st) (sym (line_open b p n))

reckoned : (s : List ℕ) (st : Sofar) → NoEnd st.part → all_as (fed st s) (fed st s).part ≡ from st (lines_of (st.part ++ s))
unfolding fed
reckoned [] st n = all_open st st.part n ∙ ap (λ (p : List ℕ). from st (lines_of p)) (sym (append-nil st.part))
reckoned (b ∷ s) st n =
    by_eq b 10
    (λ e.
    let l : List ℕ = st.part ++ b ∷ [] in
    ap (λ (x : Sofar). all_as (fed x s) (fed x s).part) (step_ended st b e)
    ∙ reckoned s (ended st l) tt
    ∙ append_assoc st.said (brings st l).2 (rest (brings st l).0 (brings st l).1 (lines_of s))
    ∙ ap (λ (x : ℕ). from st ((st.part ++ x ∷ []) ∷ lines_of s)) e
    ∙ ap (from st) (sym (line_ended st.part s n))
    ∙ ap (λ (x : ℕ). from st (lines_of (st.part ++ x ∷ s))) (sym e))
    (λ e.
    ap (λ (x : Sofar). all_as (fed x s) (fed x s).part) (step_longer st b e)
    ∙ reckoned s (longer st (st.part ++ b ∷ [])) (no_end_snoc st.part b n e)
    ∙ ap (λ (x : List ℕ). from st (lines_of x)) (append_snoc st.part b s))

-- fed from the start with all the bytes of an input, and closed: its listing
pub reckons : (m s : List ℕ) → length m ≡ serials_max → all_as (fed (began m) s) (fed (began m) s).part ≡ listing s
reckons m s room = reckoned s (began m) tt ∙ rest_all m room (lines_of s)

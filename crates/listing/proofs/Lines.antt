-- Line by line: what is printed of lines from a state on. Of all lines, from the start, it is the listing.
use Prim.Native.Nat.{ℕ, suc, ◌+◌, ◌<◌}
use mathlib.Core.Bool.{Bool, true, false}
use mathlib.Core.Path.{◌≡◌, refl, sym, ap, ap₂, subst, ◌∙◌}
use mathlib.Core.List.{List, [], ◌∷◌, ◌++◌, append_assoc, append-nil}
use native.Mathlib.Nat.{add-zero, zero-add, add_assoc}
use native.Mathlib.Omega.{arith}
use lib.ListN.{length, take}
use Rattle.words.specs.Cases.{if_le, if_yes}
use Rattle.words.specs.Lists.{among}
use Rattle.refusals.specs.Refusals.{Answer}
use Rattle.std.specs.Prelude.{Ok, Err}
use Rattle.refusals.specs.declared.Refusal.TheVariants.{RepeatedSerial, SerialListFull}
use Rattle.serials.proofs.Among.{among_both}
use Rattle.serials.proofs.Rising.{put_among}
use Rattle.serials.proofs.Places.{first_numbers}
use Rattle.line.specs.Reader.{serial_of}
use Rattle.listing.specs.Listing.{is_key, w0_of, k0_of, key_refused_text, answer_of, serials_max, unless_used, answer_after, used_by, used_after, answers, report, reports, one, opened_in, total, reported, listed}
use Rattle.listing.specs.Chunks.{start, key_of, key_text, used_in, answering, ending, closing, Remembers}
use Rattle.listing.specs.declared.KeyLine.{KeyLine}
use Rattle.listing.specs.declared.KeyLine.TheVariants.{Known, Bad}
use Rattle.listing.specs.declared.Lister.{Lister}
use Rattle.listing.proofs.Keys.{key_known, key_bad}
use Rattle.listing.proofs.Used.{opened_as, used_count, remembers_none, remembers_next}

abbrev pub rest : Lister → List ℕ → List (List ℕ) → List ℕ
rest t m [] = closing t
rest t m (l ∷ ls) = (ending t m l).2 ++ rest (ending t m l).0 (ending t m l).1 ls

-- the serials that are used stand in the memory
record Stands (used : List ℕ) (k : ℕ) (m : List ℕ) : Type 0 where
  kept : Remembers k m
  count : length used ≡ k
  same : (x : ℕ) → among x (take k m) ≡ among x used

stands_none : (m : List ℕ) → length m ≡ serials_max → Stands [] 0 m
stands_none m h = record { kept = remembers_none m h; count = refl; same = λ x. refl }

module _ {used : List ℕ} {k : ℕ} {m : List ℕ} (h : Stands used k m) (serial : ℕ) where
  same_answer : (own : Answer) → unless_used (take k m) serial own ≡ unless_used used serial own
  same_answer (Err r) = refl
  same_answer (Ok j) =
      ap₂ (λ (t : Bool) (n : ℕ). if_yes t (Err RepeatedSerial) (if_le serials_max n (Err SerialListFull) (Ok j)))
      (h.same serial)
      (used_count k serial m h.kept ∙ sym h.count)

  stands_as : (own a : Answer) → unless_used (take k m) serial own ≡ a → Remembers (k + one a) (used_in k serial m a) → Stands (used_by used serial a) (k + one a) (used_in k serial m a)
  stands_as own (Err r) e next = record { kept = next; count = h.count ∙ sym (add-zero k); same = λ x. ap (λ (n : ℕ). among x (take n m)) (add-zero k) ∙ h.same x }
  stands_as own (Ok j) e next =
      let few : k < length m = omega (arith, (opened_as (take k m) serial own j e).room, used_count k serial m h.kept, h.kept.room) in
      record {
        kept = next;
        count = omega (arith, h.count);
        same = λ x. ap (among x) (first_numbers m k serial few) ∙ put_among x serial (take k m) ∙ among_both x serial (take k m) used (h.same x);
      }

  stands_next : (own : Answer) → Stands (used_by used serial (unless_used used serial own)) (k + one (unless_used used serial own)) (used_in k serial m (unless_used used serial own))
  unfolding answering
  stands_next own =
      subst (λ (a : Answer). Stands (used_by used serial a) (k + one a) (used_in k serial m a)) (same_answer own)
      (stands_as own (unless_used (take k m) serial own) refl (remembers_next k serial m h.kept own))

abbrev under : ℕ → ℕ → ℕ → ℕ → Lister
under w0 k0 n k = record { key = Known (record { w0 = w0; k0 = k0 }); lines = n; opened = k; held = 0 }

rest_known : (w0 k0 n k : ℕ) (used m : List ℕ) (ls : List (List ℕ)) → Stands used k m
    → rest (under w0 k0 n k) m ls ≡ reports n (answers w0 k0 used ls) ++ total (n + length (answers w0 k0 used ls)) (k + opened_in (answers w0 k0 used ls))
unfolding ending closing answering
rest_known w0 k0 n k used m [] h = rw (add-zero n, add-zero k)
rest_known w0 k0 n k used m (l ∷ ls) h =
    let a = answer_after w0 k0 used l in
    let given = answers w0 k0 (used_after w0 k0 used l) ls in
    let e : n + 1 + length given ≡ n + suc (length given) = omega arith in
    ap (λ (x : Answer). report (n + 1) x ++ rest (under w0 k0 (n + 1) (k + one x)) (used_in k (serial_of l) m x) ls) (same_answer h (serial_of l) (answer_of w0 k0 l))
    ∙ ap (λ (x : List ℕ). report (n + 1) a ++ x)
    (rest_known w0 k0 (n + 1) (k + one a) (used_after w0 k0 used l) (used_in k (serial_of l) m a) ls (stands_next h (serial_of l) (answer_of w0 k0 l))
    ∙ ap₂ (λ (x y : ℕ). reports (n + 1) given ++ total x y) e (add_assoc k (one a) (opened_in given)))
    ∙ sym (append_assoc (report (n + 1) a) (reports (n + 1) given) (total (n + suc (length given)) (k + (one a + opened_in given))))

rest_bad : (n k : ℕ) (m : List ℕ) (ls : List (List ℕ)) → rest (record { key = Bad; lines = n; opened = k; held = 0 }) m ls ≡ []
unfolding ending closing
rest_bad n k m [] = refl
rest_bad n k m (l ∷ ls) = rest_bad n k m ls

pub listed_key : (l : List ℕ) (ls : List (List ℕ)) → is_key l ≡ true → listed (l ∷ ls) ≡ reported (answers (w0_of l) (k0_of l) [] ls)
unfolding listed
listed_key l ls e = simp e

listed_bad : (l : List ℕ) (ls : List (List ℕ)) → is_key l ≡ false → listed (l ∷ ls) ≡ key_refused_text
unfolding listed
listed_bad l ls e = simp e

module _ (m : List ℕ) (room : length m ≡ serials_max) where
  -- the first line has the key k
  abbrev keyed : List (List ℕ) → KeyLine → List ℕ
  keyed ls k = key_text k ++ rest (record { key = k; lines = 0; opened = 0; held = 0 }) m ls

  rest_key : (l : List ℕ) (ls : List (List ℕ)) (t : Bool) → is_key l ≡ t → keyed ls (key_of l) ≡ listed (l ∷ ls)
  rest_key l ls true e =
      let w0 = w0_of l in
      let k0 = k0_of l in
      let given = answers w0 k0 [] ls in
      ap (keyed ls) (sym (key_known l w0 k0 e refl refl))
      ∙ rest_known w0 k0 0 0 [] m ls (stands_none m room)
      ∙ ap₂ (λ (x y : ℕ). reports 0 given ++ total x y) (zero-add (length given)) (zero-add (opened_in given))
      ∙ sym (listed_key l ls e)
  rest_key l ls false e =
      ap (keyed ls) (sym (key_bad l e))
      ∙ ap (λ (x : List ℕ). key_refused_text ++ x) (rest_bad 0 0 m ls)
      ∙ append-nil key_refused_text
      ∙ sym (listed_bad l ls e)

  pub rest_all : (ls : List (List ℕ)) → rest start m ls ≡ listed ls
  unfolding listed closing ending
  rest_all [] = refl
  rest_all (l ∷ ls) = rest_key l ls (is_key l) refl

-- The serials that are used: what is answered for a line, and what is remembered then.
use Prim.Native.Nat.{ℕ, ◌+◌, ◌≤◌, ◌<◌}
use mathlib.Core.Bool.{true, false}
use mathlib.Core.Path.{◌≡◌, refl, sym, ap, subst, ◌∙◌}
use mathlib.Core.List.{List}
use mathlib.Core.Logic.{inl, inr}
use native.Mathlib.Nat.{add-zero}
use native.Mathlib.Omega.{arith}
use lib.ListN.{length, take, drop, length-append, length-drop}
use lib.Seq.{length-take-le}
use Rattle.words.specs.Lists.{among}
use Rattle.words.proofs.Cases.{by_lt, yes_or_no, yes_case, no_case, le_case, gt_case}
use Rattle.refusals.specs.Refusals.{Answer}
use Rattle.std.specs.Prelude.{Result, Ok, Err}
use Rattle.refusals.specs.declared.Refusal.{Refusal}
use Rattle.refusals.specs.declared.Refusal.TheVariants.{RepeatedSerial, SerialListFull}
use Rattle.serials.specs.Serials.{Rising, none, put, remembering}
use Rattle.serials.proofs.Rising.{put_rising, put_length}
use Rattle.serials.proofs.Places.{repeats, finds_full, remembers, first_numbers}
use Rattle.listing.specs.Listing.{serials_max, unless_used, one}
use Rattle.listing.specs.Chunks.{used_in, answering, Remembers}

-- ---- what is answered, case by case

module _ (used : List ℕ) (serial k : ℕ) where
  pub repeated : among serial used ≡ true → unless_used used serial (Ok k) ≡ Err RepeatedSerial
  repeated e = sym (yes_case (among serial used) _ _ e)

  pub list_full : among serial used ≡ false → serials_max ≤ length used → unless_used used serial (Ok k) ≡ Err SerialListFull
  list_full e h = sym (le_case serials_max (length used) _ _ h ∙ no_case (among serial used) _ _ e)

  pub fresh : among serial used ≡ false → length used < serials_max → unless_used used serial (Ok k) ≡ Ok k
  fresh e h = sym (gt_case serials_max (length used) _ _ h ∙ no_case (among serial used) _ _ e)

-- a line is answered as opened: by itself it opens, its serial is fresh, and the list is not full
pub record Opened (used : List ℕ) (serial k : ℕ) (own : Answer) : Type 0 where
  pub alone : own ≡ Ok k
  pub unused : among serial used ≡ false
  pub room : length used < serials_max

pub opened_as : (used : List ℕ) (serial : ℕ) (own : Answer) (k : ℕ) → unless_used used serial own ≡ Ok k → Opened used serial k own
opened_as used serial (Err r) k e = absurd (omega (arith, ap one e))
opened_as used serial (Ok j) k e =
    elim (yes_or_no (among serial used)) [
      | inl y ↦ absurd (omega (arith, ap one (sym (repeated used serial j y) ∙ e)))
      | inr n ↦
          by_lt (length used) serials_max
          (λ h. record { alone = sym (fresh used serial j n h) ∙ e; unused = n; room = h })
          (λ h. absurd (omega (arith, ap one (sym (list_full used serial j n h) ∙ e))))
    ]

-- why a line is refused: by itself, because its serial is used, or because there is no room for it
pub data Why (used : List ℕ) (serial : ℕ) (own : Answer) (r : Refusal) : Type 0 where
  alone : own ≡ Err r → Why used serial own r
  used_before_it : (k : ℕ) → own ≡ Ok k → among serial used ≡ true → r ≡ RepeatedSerial → Why used serial own r
  no_room : (k : ℕ) → own ≡ Ok k → among serial used ≡ false → serials_max ≤ length used → r ≡ SerialListFull → Why used serial own r

refusal_of : {q r : Refusal} → ◌≡◌ {A = Answer} (Err q) (Err r) → r ≡ q
refusal_of e = cc

pub refused_as_lem : (used : List ℕ) (serial : ℕ) (own : Answer) (r : Refusal) → unless_used used serial own ≡ Err r → Why used serial own r
refused_as_lem used serial (Err q) r e = alone e
refused_as_lem used serial (Ok k) r e =
    elim (yes_or_no (among serial used)) [
      | inl y ↦ used_before_it k refl y (refusal_of (sym (repeated used serial k y) ∙ e))
      | inr n ↦
          by_lt (length used) serials_max
          (λ h. absurd (omega (arith, ap one (sym (fresh used serial k n h) ∙ e))))
          (λ h. no_room k refl n h (refusal_of (sym (list_full used serial k n h) ∙ e)))
    ]

-- a refused line stays refused, and uses up nothing
pub refused_stays : (n serial : ℕ) (m : List ℕ) (r : Refusal) → (Err r, m) ≡ answering n serial m (Err r)
unfolding answering
refused_stays n serial m r = refl

-- ---- what is answered for a line that opens by itself, from what became of its serial

abbrev pub answer_from : Answer → Result (Unit {0}) Refusal → Answer
answer_from own (Ok _) = own
answer_from own (Err r) = Err r

abbrev answered_from : Answer → Result (Unit {0}) Refusal × List ℕ → Answer × List ℕ
answered_from own x = (answer_from own x.0, x.1)

pub remembers_none : (m : List ℕ) → length m ≡ serials_max → Remembers 0 m
remembers_none m h = record { room = h; few = omega arith; rising = none }

module _ (n serial : ℕ) (m : List ℕ) (h : Remembers n m) where
  pub used_count : length (take n m) ≡ n
  used_count = length-take-le n m (omega (arith, h.room, h.few))

  answered_from_lem : (k : ℕ) → answered_from (Ok k) (remembering n serial m) ≡ answering n serial m (Ok k)
  unfolding answering
  answered_from_lem k =
      let then : Answer → Answer × List ℕ = λ a. (a, used_in n serial m a) in
      elim (yes_or_no (among serial (take n m))) [
        | inl y ↦ ap (answered_from (Ok k)) (sym (repeats m n serial y)) ∙ ap then (sym (repeated (take n m) serial k y))
        | inr f ↦
            by_lt n serials_max
            (λ z. ap (answered_from (Ok k)) (sym (remembers m n serial f (omega (arith, h.room)))) ∙ ap then (sym (fresh (take n m) serial k f (omega (arith, used_count)))))
            (λ z. ap (answered_from (Ok k)) (sym (finds_full m n serial f (omega (arith, h.room)))) ∙ ap then (sym (list_full (take n m) serial k f (omega (arith, used_count)))))
      ]

  pub answered : (k : ℕ) → {x : ℕ} {r q : Result (Unit {0}) Refusal} {m' : List ℕ} → x ≡ serial → (r, m') ≡ remembering n x m → r ≡ q
      → (answer_from (Ok k) q, m') ≡ answering n serial m (Ok k)
  answered k {x} {r} {q} {m'} z e t =
      ap (λ (u : Result (Unit {0}) Refusal). (answer_from (Ok k) u, m')) (sym t)
      ∙ ap (answered_from (Ok k)) (e ∙ ap (λ (y : ℕ). remembering n y m) z)
      ∙ answered_from_lem k

  -- ---- the memory then

  next_as : (own a : Answer) → unless_used (take n m) serial own ≡ a → Remembers (n + one a) (used_in n serial m a)
  next_as own (Err r) e = rw add-zero h
  next_as own (Ok k) e =
      let o = opened_as (take n m) serial own k e in
      let few : n < serials_max = omega (arith, o.room, used_count) in
      record {
        room =
            length-append (put serial (take n m)) (drop (n + 1) m)
            ∙ omega (arith, put_length serial (take n m), used_count, length-drop (n + 1) m, h.room);
        few = omega arith;
        rising = subst (Rising 0) (sym (first_numbers m n serial (omega (arith, h.room)))) (put_rising serial h.rising (omega arith) o.unused);
      }

  pub remembers_next : (own : Answer) → Remembers (n + one (answering n serial m own).0) (answering n serial m own).1
  unfolding answering
  remembers_next own = next_as own (unless_used (take n m) serial own) refl

-- Serials that come once: handles that rise when they are sorted, and no line whose serial came before.
use Prim.Native.Nat.{ℕ, zero, suc, ◌+◌, ◌/◌, ◌≤◌, ◌<◌}
use mathlib.Core.Bool.{Bool, true, false, false≢true}
use mathlib.Core.Logic.{◌⊎◌, inl, inr, ⊎_elim}
use mathlib.Core.Path.{◌≡◌, refl, sym, ap, subst, ◌∙◌}
use mathlib.Core.List.{List, [], ◌∷◌, ◌++◌, map}
use native.Mathlib.Numerals.{add-one}
use native.Mathlib.Omega.{arith}
use borrow.Author.Tests.{eq-eqb, ne_eqb, ltb-true}
use lib.Dec.{ltb}
use lib.ListN.{length, take, drop, get_or, drop_of_length-le}
use lib.Seq.{drop-cons, take-suc}
use Rattle.std.specs.Bool.{MatchBool}
use Rattle.std.specs.List.{IsAllAdjacentAnswer, HoldsAt, AllWithin}
use Rattle.std.specs.Prelude.{None, Some}
use Rattle.words.specs.Lists.{among}
use Rattle.words.proofs.Cases.{by_lt, by_eq, not_true_false}
use Rattle.changes.specs.Compare.{repeat_in}
use Rattle.changes.specs.Workings.{some_number, FirstRepeat, serial_in, Above, Ascending, none, more, matching}
use Rattle.sorting.specs.Sorting.{insert, into, sorted}
use Rattle.sorting.proofs.Sorting.{insert_le, insert_gt}

-- ---- the handles with a serial

module _ (s x : ℕ) (xs : List ℕ) where
  pub matching_here : serial_in x ≡ s → matching s (x ∷ xs) ≡ x ∷ matching s xs
  unfolding matching
  matching_here e = simp (eq-eqb (serial_in x) s e)

  pub matching_other : (serial_in x ≡ s → ⊥) → matching s (x ∷ xs) ≡ matching s xs
  unfolding matching
  matching_other e = simp (ne_eqb (serial_in x) s e)

  matching_none : matching s (x ∷ xs) ≡ [] → (serial_in x ≡ s → ⊥) × (matching s xs ≡ [])
  matching_none e =
      by_eq (serial_in x) s
      (λ h. let z : x ∷ matching s xs ≡ [] = sym (matching_here h) ∙ e in absurd (omega (arith, ap length z)))
      (λ h. (h, sym (matching_other h) ∙ e))

-- one handle more
pub insert_other : (s x : ℕ) (l : List ℕ) → (serial_in x ≡ s → ⊥) → matching s (insert x l) ≡ matching s l
unfolding insert
insert_other s x [] h = matching_other s x [] h
insert_other s x (y ∷ l) h =
    by_lt y x
    (λ k. ap (matching s) (insert_gt x y l k)
    ∙ by_eq (serial_in y) s (λ e. matching_here s y (insert x l) e ∙ ap (λ (z : List ℕ). y ∷ z) (insert_other s x l h) ∙ sym (matching_here s y l e)) (λ e. matching_other s y (insert x l) e ∙ insert_other s x l h ∙ sym (matching_other s y l e)))
    (λ k. ap (matching s) (insert_le x y l k) ∙ matching_other s x (y ∷ l) h)

insert_only : (s x : ℕ) (l : List ℕ) → serial_in x ≡ s → matching s l ≡ [] → matching s (insert x l) ≡ x ∷ []
unfolding insert matching
insert_only s x [] h e = matching_here s x [] h
insert_only s x (y ∷ l) h e =
    by_lt y x
    (λ k. let n = matching_none s y l e in ap (matching s) (insert_gt x y l k) ∙ matching_other s y (insert x l) n.0 ∙ insert_only s x l h n.1)
    (λ k. ap (matching s) (insert_le x y l k) ∙ matching_here s x (y ∷ l) h ∙ ap (λ (z : List ℕ). x ∷ z) e)

-- ---- no two handles of one serial

pub data Distinct : List ℕ → Type 0 where
  nothing : Distinct []
  another : {x : ℕ} {xs : List ℕ} → matching (serial_in x) xs ≡ [] → Distinct xs → Distinct (x ∷ xs)

pub sorted_matching : {a : List ℕ} (s : ℕ) → Distinct a → matching s (sorted a) ≡ matching s a
unfolding into
sorted_matching s nothing = refl
sorted_matching s (another {x = x} {xs = xs} e d) =
    by_eq (serial_in x) s
    (λ h.
    let z : matching s xs ≡ [] = ap (λ (k : ℕ). matching k xs) (sym h) ∙ e in
    insert_only s x (sorted xs) h (sorted_matching s d ∙ z) ∙ sym (matching_here s x xs h ∙ ap (λ (l : List ℕ). x ∷ l) z))
    (λ h. insert_other s x (sorted xs) h ∙ sorted_matching s d ∙ sym (matching_other s x xs h))

-- ---- rising serials

pub above_less : {s t : ℕ} {l : List ℕ} → s ≤ t → Above t l → Above s l
above_less h none = none
above_less {s} h (more {y = y} k a) = let l : s < serial_in y = omega arith in more l (above_less h a)

pub above_none : {s : ℕ} {l : List ℕ} → Above s l → matching s l ≡ []
unfolding matching
above_none none = refl
above_none {s} (more {y = y} {ys = ys} k a) = matching_other s y ys (λ e. absurd (omega (arith, e))) ∙ above_none a

above_insert : {s : ℕ} (x : ℕ) {l : List ℕ} → s < serial_in x → Above s l → Above s (insert x l)
unfolding insert
above_insert x h none = more h none
above_insert {s} x h (more {y = y} {ys = ys} k a) =
    by_lt y x
    (λ m. subst (Above s) (sym (insert_gt x y ys m)) (more k (above_insert x h a)))
    (λ m. subst (Above s) (sym (insert_le x y ys m)) (more h (more k a)))

above_tail : {s y : ℕ} {ys : List ℕ} → Above s (y ∷ ys) → (s < serial_in y) × Above s ys
above_tail (more k a) = (k, a)

above_parts : {s : ℕ} (x : ℕ) (l : List ℕ) → Above s (insert x l) → (s < serial_in x) × Above s l
unfolding insert
above_parts x [] a = ((above_tail a).0, none)
above_parts {s} x (y ∷ l) a =
    by_lt y x
    (λ m. let t = above_tail (subst (Above s) (insert_gt x y l m) a) in let r = above_parts x l t.1 in (r.0, more t.0 r.1))
    (λ m. above_tail (subst (Above s) (insert_le x y l m) a))

insert_rising : (x : ℕ) {l : List ℕ} → Ascending l → matching (serial_in x) l ≡ [] → Ascending (insert x l)
unfolding insert
insert_rising x none e = more none none
insert_rising x (more {x = y} {xs = ys} a r) e =
    let n = matching_none (serial_in x) y ys e in
    let apart = n.0 in
    by_lt y x
    (λ m.
    let less : serial_in y < serial_in x = by_lt (serial_in y) (serial_in x) (λ h. h) (λ h. absurd (apart (omega arith))) in
    subst Ascending (sym (insert_gt x y ys m)) (more (above_insert x less a) (insert_rising x r n.1)))
    (λ m.
    let less : serial_in x < serial_in y = by_lt (serial_in x) (serial_in y) (λ h. h) (λ h. absurd (apart (omega arith))) in
    subst Ascending (sym (insert_le x y ys m)) (more (more less (above_less (omega arith) a)) (more a r)))

pub distinct_rising : {a : List ℕ} → Distinct a → Ascending (sorted a)
unfolding into
distinct_rising nothing = none
distinct_rising (another {x = x} {xs = xs} e d) = insert_rising x (distinct_rising d) (sorted_matching (serial_in x) d ∙ e)

rising_tail : {x : ℕ} {l : List ℕ} → Ascending (x ∷ l) → Above (serial_in x) l × Ascending l
rising_tail (more a r) = (a, r)

rising_parts : (x : ℕ) (l : List ℕ) → Ascending (insert x l) → Ascending l × (matching (serial_in x) l ≡ [])
unfolding insert matching
rising_parts x [] r = (none, refl)
rising_parts x (y ∷ l) r =
    by_lt y x
    (λ m.
    let t = rising_tail (subst Ascending (insert_gt x y l m) r) in
    let p = above_parts x l t.0 in
    let q = rising_parts x l t.1 in
    (more p.1 q.0, matching_other (serial_in x) y l (λ e. absurd (omega (arith, e, p.0))) ∙ q.1))
    (λ m. let t = rising_tail (subst Ascending (insert_le x y l m) r) in (t.1, above_none t.0))

pub rising_distinct : (a : List ℕ) → Ascending (sorted a) → Distinct a
unfolding into
rising_distinct [] r = nothing
rising_distinct (x ∷ a) r =
    let p = rising_parts x (sorted a) r in
    let d = rising_distinct a p.0 in
    another (sym (sorted_matching (serial_in x) d) ∙ p.1) d

-- ---- no line whose serial came before

pub among_here : (s x : ℕ) (l : List ℕ) → s ≡ x → among s (x ∷ l) ≡ true
among_here s x l e = ap (λ (t : Bool). elim t [ true ↦ true | false ↦ among s l ]) (eq-eqb s x e)

pub among_later : (s x : ℕ) (l : List ℕ) → (s ≡ x → ⊥) → among s (x ∷ l) ≡ among s l
among_later s x l e = ap (λ (t : Bool). elim t [ true ↦ true | false ↦ among s l ]) (ne_eqb s x e)

pub among_last : (s x : ℕ) (l : List ℕ) → s ≡ x → among s (l ++ (x ∷ [])) ≡ true
among_last s x [] e = among_here s x [] e
among_last s x (y ∷ l) e = by_eq s y (λ h. among_here s y (l ++ (x ∷ [])) h) (λ h. among_later s y (l ++ (x ∷ [])) h ∙ among_last s x l e)

pub among_first : (s x : ℕ) (l : List ℕ) → among s l ≡ true → among s (l ++ (x ∷ [])) ≡ true
among_first s x [] e = absurd (false≢true e)
among_first s x (y ∷ l) e = by_eq s y (λ h. among_here s y (l ++ (x ∷ [])) h) (λ h. among_later s y (l ++ (x ∷ [])) h ∙ among_first s x l (sym (among_later s y l h) ∙ e))

among_either : (s x : ℕ) (l : List ℕ) → among s (l ++ (x ∷ [])) ≡ true → (among s l ≡ true) ⊎ (s ≡ x)
among_either s x [] e = by_eq s x (λ h. inr h) (λ h. absurd (false≢true (sym (among_later s x [] h) ∙ e)))
among_either s x (y ∷ l) e =
    by_eq s y (λ h. inl (among_here s y l h))
    (λ h. ⊎_elim (λ k. inl (among_later s y l h ∙ k)) (λ k. inr k) (among_either s x l (sym (among_later s y (l ++ (x ∷ [])) h) ∙ e)))

-- none of the serials seen has a handle
pub record Apart (seen xs : List ℕ) : Type 0 where
  pub apart : (s : ℕ) → among s seen ≡ true → matching s xs ≡ []

module _ (seen : List ℕ) (n x : ℕ) (xs : List ℕ) where
  pub repeat_here : among x seen ≡ true → repeat_in seen n (x ∷ xs) ≡ n + 1
  unfolding repeat_in
  repeat_here e = simp e

  pub repeat_later : among x seen ≡ false → repeat_in seen n (x ∷ xs) ≡ repeat_in (seen ++ (x ∷ [])) (n + 1) xs
  unfolding repeat_in
  repeat_later e = simp e

pub no_repeat : (seen : List ℕ) (n : ℕ) (xs : List ℕ) → repeat_in seen n (map serial_in xs) ≡ 0 → Distinct xs × Apart seen xs
unfolding matching
no_repeat seen n [] e = (nothing, record { apart = λ s h. refl })
no_repeat seen n (x ∷ xs) e =
    let new : among (serial_in x) seen ≡ false = not_true_false (among (serial_in x) seen) (λ h. absurd (omega (arith, e, repeat_here seen n (serial_in x) (map serial_in xs) h))) in
    let rest = no_repeat (seen ++ (serial_in x ∷ [])) (n + 1) xs (sym (repeat_later seen n (serial_in x) (map serial_in xs) new) ∙ e) in (
      another (rest.1.apart (serial_in x) (among_last (serial_in x) (serial_in x) seen refl)) rest.0,
      record {
        apart = λ s h.
            matching_other s x xs (λ k. false≢true (sym new ∙ ap (λ (i : ℕ). among i seen) k ∙ h)) ∙ rest.1.apart s (among_first s (serial_in x) seen h);
      },
    )

pub none_repeats : (seen : List ℕ) (n : ℕ) {xs : List ℕ} → Distinct xs → Apart seen xs → repeat_in seen n (map serial_in xs) ≡ 0
unfolding repeat_in
none_repeats seen n nothing p = refl
none_repeats seen n (another {x = x} {xs = xs} e d) p =
    let new : among (serial_in x) seen ≡ false = not_true_false (among (serial_in x) seen) (λ h. (matching_none (serial_in x) x xs (p.apart (serial_in x) h)).0 refl) in
    repeat_later seen n (serial_in x) (map serial_in xs) new
    ∙ none_repeats (seen ++ (serial_in x ∷ [])) (n + 1) d
    (record {
      apart = λ s h. ⊎_elim (λ k. (matching_none s x xs (p.apart s k)).1) (λ k. ap (λ (i : ℕ). matching i xs) k ∙ e) (among_either s (serial_in x) seen h);
    })

-- sorted handles that rise have no line whose serial came before
pub rising_once : (a : List ℕ) → Ascending (sorted a) → FirstRepeat a None
rising_once a r = record { number = ap some_number (sym (none_repeats [] 0 (rising_distinct a r) (record { apart = λ s h. absurd (false≢true h) }))); few = tt }

-- ---- the loops

rising_more : {x y : ℕ} {l : List ℕ} → serial_in x < serial_in y → Ascending (y ∷ l) → Ascending (x ∷ y ∷ l)
rising_more h (more a r) = more (more h (above_less (omega arith) a)) (more a r)

-- each serial is below the next
all_rise : (a : List ℕ) → ((k : ℕ) → suc k < length a → serial_in (get_or a k 0) < serial_in (get_or a (suc k) 0)) → Ascending a
all_rise [] h = none
all_rise (x ∷ []) h = more none none
all_rise (x ∷ y ∷ l) h = rising_more (h 0 (omega arith)) (all_rise (y ∷ l) (λ k i. h (suc k) (omega arith)))

pub next_rises : (a : List ℕ) (r : Bool) → IsAllAdjacentAnswer (λ x y b. b ≡ ltb (x / 65536) (y / 65536)) a r → r ≡ true → Ascending a
next_rises a true h e =
    all_rise a (λ k i. subst (λ (j : ℕ). serial_in (get_or a k 0) < serial_in (get_or a j 0)) (add-one k) (ltb-true _ _ (sym (h k 0 (omega arith)))))
next_rises a false h e = absurd (false≢true e)

-- one of the serials is s, or none
one_among : (s : ℕ) (l : List ℕ) (k : ℕ) → k < length l → s ≡ serial_in (get_or l k 0) → among s (map serial_in l) ≡ true
one_among s [] k h e = absurd (omega arith)
one_among s (x ∷ l) zero h e = among_here s (serial_in x) (map serial_in l) e
one_among s (x ∷ l) (suc k) h e =
    by_eq s (serial_in x)
    (λ q. among_here s (serial_in x) (map serial_in l) q)
    (λ q. among_later s (serial_in x) (map serial_in l) q ∙ one_among s l k (omega arith) e)

none_among : (s : ℕ) (l : List ℕ) → ((k : ℕ) → k < length l → s ≡ serial_in (get_or l k 0) → ⊥) → among s (map serial_in l) ≡ false
none_among s [] h = refl
none_among s (x ∷ l) h = among_later s (serial_in x) (map serial_in l) (h 0 (omega arith)) ∙ none_among s l (λ k i. h (suc k) (omega arith))

pub any_among : (s : ℕ) (l : List ℕ) (r : Bool) → MatchBool r ((k : ℕ) × (k < length l) × HoldsAt (λ x. s ≡ x / 65536) l k) (AllWithin (λ x. s ≡ x / 65536 → ⊥) l 0 (length l)) → r ≡ among s (map serial_in l)
any_among s l true (k, h, p) = sym (one_among s l k h (p 0))
any_among s l false h = sym (none_among s l (λ k i. h k 0 (omega arith) i))

-- the serials of the first j handles came once
pub record NoneYet (a : List ℕ) (j : ℕ) : Type 0 where
  pub within : j ≤ length a
  pub short : length a ≤ 1024
  pub whole : repeat_in (map serial_in (take j a)) j (map serial_in (drop j a)) ≡ repeat_in [] 0 (map serial_in a)

map_snoc : (l : List ℕ) (x : ℕ) → map serial_in (l ++ (x ∷ [])) ≡ map serial_in l ++ (serial_in x ∷ [])
map_snoc [] x = refl
map_snoc (y ∷ l) x = ap (λ (z : List ℕ). serial_in y ∷ z) (map_snoc l x)

module _ (a : List ℕ) (j : ℕ) (k : NoneYet a j) (h : j < length a) where
  pub once_not : true ≡ among (serial_in (get_or a j 0)) (map serial_in (take j a)) → Some (j + 1) ≡ some_number (repeat_in [] 0 (map serial_in a))
  once_not e =
      ap Some (add-one j) ∙ ap some_number (sym (add-one j) ∙ sym (ap (λ (l : List ℕ). repeat_in (map serial_in (take j a)) j (map serial_in l)) (drop-cons a j 0 h) ∙ repeat_here (map serial_in (take j a)) j (serial_in (get_or a j 0)) (map serial_in (drop (suc j) a)) (sym e))
      ∙ k.whole)

  pub once_more : false ≡ among (serial_in (get_or a j 0)) (map serial_in (take j a)) → NoneYet a (j + 1)
  once_more e = record {
    within = omega arith;
    short = k.short;
    whole =
        ap (λ (n : ℕ). repeat_in (map serial_in (take n a)) (j + 1) (map serial_in (drop n a))) (add-one j)
        ∙ ap (λ (l : List ℕ). repeat_in l (j + 1) (map serial_in (drop (suc j) a))) (ap (map serial_in) (take-suc a j 0 h) ∙ map_snoc (take j a) (get_or a j 0))
        ∙ sym (ap (λ (l : List ℕ). repeat_in (map serial_in (take j a)) j (map serial_in l)) (drop-cons a j 0 h) ∙ repeat_later (map serial_in (take j a)) j (serial_in (get_or a j 0)) (map serial_in (drop (suc j) a)) (sym e))
        ∙ k.whole;
  }

pub once_all : (a : List ℕ) (j : ℕ) → NoneYet a j → length a ≤ j → None ≡ some_number (repeat_in [] 0 (map serial_in a))
unfolding repeat_in
once_all a j k h = ap some_number (sym (ap (λ (l : List ℕ). repeat_in (map serial_in (take j a)) j (map serial_in l)) (drop_of_length-le a {i = j} h)) ∙ k.whole)

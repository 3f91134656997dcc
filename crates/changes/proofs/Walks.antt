-- The walk over the sorted handles of two files: the next serial is the least of those that are left, and what is said of it comes first in the report of what is left.
use Prim.Native.Nat.{ℕ, zero, suc, ◌+◌, ◌-◌, ◌*◌, ◌/◌, ◌^◌, ◌≤◌, ◌<◌}
use mathlib.Core.Path.{◌≡◌, refl, sym, ap, ap₂, subst, ◌∙◌}
use mathlib.Core.List.{List, [], ◌∷◌, ◌++◌, map, append_assoc, append-nil}
use native.Mathlib.Nat.{zero-add, add-zero}
use native.Mathlib.Numerals.{add-one}
use native.Mathlib.Omega.{arith}
use lib.ListN.{length, take, drop, get_or, length-drop, drop_of_length-le}
use lib.Seq.{drop-cons, length-paste}
use Rattle.words.proofs.Cases.{by_lt}
use Rattle.texts.specs.Lines.{line_length}
use Rattle.texts.specs.Texts.{Appended}
use Rattle.texts.proofs.Lines.{line_short}
use Rattle.texts.proofs.Texts.{and_then}
use Rattle.changes.specs.Report.{change, rising, saying, first_text, second_text, pair}
use Rattle.changes.specs.Workings.{serial_in, start_in, line_in, HandleIn, Each, Above, Ascending, none, more, next_serial, matching, told, reported, Walkable}
use Rattle.changes.proofs.Handles.{part_line, line_length_lem}
use Rattle.texts.proofs.Lines.{line_within}
use Rattle.changes.proofs.Serials.{matching_here, matching_other, above_less, above_none}

-- ---- serial by serial

rising_split : (f : ℕ → List ℕ) (j k s : ℕ) → rising f (j + k) s ≡ rising f j s ++ rising f k (s + j)
unfolding rising
rising_split f zero k s = ap₂ (λ (n t : ℕ). rising f n t) (zero-add k) (sym (add-zero s))
rising_split f (suc j) k s =
    let e : suc j + k ≡ suc (j + k) = omega arith in
    let t : s + 1 + j ≡ s + suc j = omega arith in
    ap (λ (n : ℕ). rising f n s) e
    ∙ ap (λ (l : List ℕ). f s ++ l) (rising_split f j k (s + 1) ∙ ap (λ (n : ℕ). rising f j (s + 1) ++ rising f k n) t)
    ∙ sym (append_assoc (f s) (rising f j (s + 1)) (rising f k (s + suc j)))

pub rising_none : (f : ℕ → List ℕ) (n s : ℕ) → ((t : ℕ) → t < s + n → f t ≡ []) → rising f n s ≡ []
unfolding rising
rising_none f zero s h = refl
rising_none f (suc n) s h = ap₂ ◌++◌ (h s (omega arith)) (rising_none f n (s + 1) (λ t l. h t (omega arith)))

pub rising_same : (f g : ℕ → List ℕ) (n s : ℕ) → ((t : ℕ) → s ≤ t → f t ≡ g t) → rising f n s ≡ rising g n s
unfolding rising
rising_same f g zero s h = refl
rising_same f g (suc n) s h = ap₂ ◌++◌ (h s (omega arith)) (rising_same f g n (s + 1) (λ t l. h t (omega arith)))

-- what is said below m, of m, and above
pub rising_at : (f : ℕ → List ℕ) (n m : ℕ) → m < n → rising f n 0 ≡ rising f m 0 ++ (f m ++ rising f (n - (m + 1)) (m + 1))
unfolding rising
rising_at f n m h =
    let e : n ≡ m + suc (n - (m + 1)) = omega arith in
    ap (λ (k : ℕ). rising f k 0) e
    ∙ rising_split f m (suc (n - (m + 1))) 0
    ∙ ap (λ (k : ℕ). rising f m 0 ++ (f k ++ rising f (n - (m + 1)) (k + 1))) (zero-add m)

-- nothing is said below m, and then what is said of m
rising_from : (f : ℕ → List ℕ) (n m : ℕ) → m < n → ((t : ℕ) → t < m → f t ≡ []) → rising f n 0 ≡ f m ++ rising f (n - (m + 1)) (m + 1)
rising_from f n m h z = rising_at f n m h ∙ ap (λ (l : List ℕ). l ++ (f m ++ rising f (n - (m + 1)) (m + 1))) (rising_none f m 0 (λ t l. z t (omega arith)))

-- nothing is said up to m
rising_above : (f : ℕ → List ℕ) (n m : ℕ) → m < n → ((t : ℕ) → t < m + 1 → f t ≡ []) → rising f n 0 ≡ rising f (n - (m + 1)) (m + 1)
rising_above f n m h z =
    let e : n ≡ m + 1 + (n - (m + 1)) = omega arith in
    ap (λ (k : ℕ). rising f k 0) e
    ∙ rising_split f (m + 1) (n - (m + 1)) 0
    ∙ ap₂ (λ (l : List ℕ) (k : ℕ). l ++ rising f (n - (m + 1)) k) (rising_none f (m + 1) 0 (λ t l. z t (omega arith))) (zero-add (m + 1))

rising_step : (f g : ℕ → List ℕ) (n m : ℕ) → m < n → ((t : ℕ) → t < m → f t ≡ []) → ((t : ℕ) → t < m + 1 → g t ≡ []) → ((t : ℕ) → m + 1 ≤ t → f t ≡ g t)
    → rising f n 0 ≡ f m ++ rising g n 0
rising_step f g n m h z y e =
    rising_from f n m h z
    ∙ ap (λ (l : List ℕ). f m ++ l) (rising_same f g (n - (m + 1)) (m + 1) e ∙ sym (rising_above g n m h y))

-- ---- two lists of handles

-- no handle of a list has a serial below m
abbrev From : ℕ → List ℕ → Type 0
From m a = (t : ℕ) → t < m → matching t a ≡ []

above_from : {m : ℕ} {a : List ℕ} → Above m a → From (m + 1) a
above_from h t l = above_none (above_less (omega arith) h)

head_from : (x : ℕ) {a : List ℕ} → Above (serial_in x) a → From (serial_in x) (x ∷ a)
head_from x {a} h t l = matching_other t x a (λ e. absurd (omega (arith, e))) ∙ above_from h t (omega arith)

module _ (f g a b c d : List ℕ) (m : ℕ) (h : m < 2 ^ 44) where
  step : From m a → From m b → From (m + 1) c → From (m + 1) d → ((t : ℕ) → m + 1 ≤ t → matching t a ≡ matching t c) → ((t : ℕ) → m + 1 ≤ t → matching t b ≡ matching t d)
      → reported f g a b ≡ told f g a b m ++ reported f g c d
  unfolding reported change
  step p q r s u v =
      rising_step (told f g a b) (told f g c d) (2 ^ 44) m h
      (λ t l. ap₂ (λ (x y : List ℕ). change (map (line_in f) x) (map (line_in g) y)) (p t l) (q t l))
      (λ t l. ap₂ (λ (x y : List ℕ). change (map (line_in f) x) (map (line_in g) y)) (r t l) (s t l))
      (λ t l. ap₂ (λ (x y : List ℕ). change (map (line_in f) x) (map (line_in g) y)) (u t l) (v t l))

later : (x : ℕ) (a : List ℕ) (t : ℕ) → serial_in x + 1 ≤ t → matching t (x ∷ a) ≡ matching t a
later x a t l = matching_other t x a (λ e. absurd (omega (arith, e)))

module _ (f g : List ℕ) where
  -- the least serial is the first file's alone
  pub first_least : {x : ℕ} {a b : List ℕ} → serial_in x < 2 ^ 44 → Ascending (x ∷ a) → Above (serial_in x) b → reported f g (x ∷ a) b ≡ saying first_text (line_in f x) [] ++ reported f g a b
  unfolding change
  first_least {x} {a} {b} h (more r s) k =
      step f g (x ∷ a) b a b (serial_in x) h (head_from x r) (λ t l. above_from k t (omega arith)) (above_from r) (above_from k) (later x a) (λ t l. refl)
      ∙ ap₂ (λ (y z : List ℕ). change (map (line_in f) y) (map (line_in g) z) ++ reported f g a b) (matching_here (serial_in x) x a refl) (above_none k)

  -- the second's alone
  pub second_least : {y : ℕ} {a b : List ℕ} → serial_in y < 2 ^ 44 → Ascending (y ∷ b) → Above (serial_in y) a → reported f g a (y ∷ b) ≡ saying second_text (line_in g y) [] ++ reported f g a b
  unfolding change
  second_least {y} {a} {b} h (more r s) k =
      step f g a (y ∷ b) a b (serial_in y) h (λ t l. above_from k t (omega arith)) (head_from y r) (above_from k) (above_from r) (λ t l. refl) (later y b)
      ∙ ap₂ (λ (x z : List ℕ). change (map (line_in f) x) (map (line_in g) z) ++ reported f g a b) (above_none k) (matching_here (serial_in y) y b refl)

  -- both have it
  pub both_least : {x y : ℕ} {a b : List ℕ} → serial_in x < 2 ^ 44 → serial_in x ≡ serial_in y → Ascending (x ∷ a) → Ascending (y ∷ b) → reported f g (x ∷ a) (y ∷ b) ≡ pair (line_in f x) (line_in g y) ++ reported f g a b
  unfolding change
  both_least {x} {y} {a} {b} h e (more r s) (more u v) =
      let k : Above (serial_in x) b = subst (λ (n : ℕ). Above n b) (sym e) u in
      let q : From (serial_in x) (y ∷ b) = λ t l. head_from y u t (omega arith) in
      step f g (x ∷ a) (y ∷ b) a b (serial_in x) h (head_from x r) q (above_from r) (above_from k) (later x a) (λ t l. later y b t (omega arith))
      ∙ ap₂ (λ (w z : List ℕ). change (map (line_in f) w) (map (line_in g) z) ++ reported f g a b) (matching_here (serial_in x) x a refl) (matching_here (serial_in x) y b (sym e))

  -- no handles are left
  pub none_left : reported f g [] [] ≡ []
  unfolding reported matching change
  none_left = rising_none (told f g [] []) (2 ^ 44) 0 (λ t l. refl)

-- ---- a handle and its line

module _ (s : List ℕ) (x : ℕ) (k : HandleIn s x) where
  pub handle_start : start_in x < length s
  handle_start = omega (arith, k.line, line_short (drop (start_in x) s), length-drop (start_in x) s)

  pub handle_end : (e : ℕ) → e ≡ start_in x + line_length (drop (start_in x) s) → e ≤ length s
  handle_end e p = omega (arith, (line_within s (start_in x) handle_start).1)

  pub handle_line : (e : ℕ) → e ≡ start_in x + line_length (drop (start_in x) s) → take (e - start_in x) (drop (start_in x) s) ≡ line_in s x
  handle_line e p = part_line s (start_in x) e p

  pub handle_length : (37 ≤ length (line_in s x)) × (length (line_in s x) ≤ length s)
  handle_length =
      let n : length (line_in s x) ≡ line_length (drop (start_in x) s) = line_length_lem s (start_in x) handle_start in
      (omega (arith, n, k.line), omega (arith, n, (line_within s (start_in x) handle_start).1))

pub each_at : {s a : List ℕ} → Each s a → (i : ℕ) → i < length a → HandleIn s (get_or a i 0)
each_at none i h = absurd (omega arith)
each_at (more k e) zero h = k
each_at (more k e) (suc i) h = each_at e i (omega arith)

rising_drop : (i : ℕ) {a : List ℕ} → Ascending a → Ascending (drop i a)
rising_drop zero r = r
rising_drop (suc i) none = none
rising_drop (suc i) (more h r) = rising_drop i r

-- ---- whose serial is next

module _ (a : List ℕ) (i : ℕ) where
  pub next_there : i < length a → get_or a i 0 / 65536 ≡ next_serial (drop i a)
  next_there h = sym (ap next_serial (drop-cons a i 0 h))

  pub next_none : length a ≤ i → 2 ^ 44 ≡ next_serial (drop i a)
  next_none h = sym (ap next_serial (drop_of_length-le a {i = i} h))

  next_small : {s : List ℕ} → Each s a → i < length a → next_serial (drop i a) < 2 ^ 44
  next_small e h = omega (arith, next_there h, (each_at e i h).serial)

  next_most : {s : List ℕ} → Each s a → next_serial (drop i a) ≤ 2 ^ 44
  next_most e = by_lt i (length a) (λ h. omega (arith, next_small e h)) (λ h. omega (arith, next_none h))

above_next : {s : ℕ} {l : List ℕ} → Ascending l → s < next_serial l → Above s l
above_next none h = none
above_next {s} (more {x = x} a r) h = more h (above_less (omega arith) a)

-- what is written, and the report of the handles that are left, are the whole report
pub record Walked (f g a b d out : List ℕ) (i j n : ℕ) : Type 0 where
  pub first : Walkable f a
  pub second : Walkable g b
  pub first_few : i ≤ length a
  pub second_few : j ≤ length b
  pub whole_room : length d ≡ 65536
  pub size : length out ≡ length d
  pub room : n ≤ 32 * (i + j)
  pub text : List ℕ
  pub stands : Appended d 0 text out n
  pub whole : text ++ reported f g (drop i a) (drop j b) ≡ reported f g a b

appended_length : {d t out : List ℕ} {n m : ℕ} → m ≤ length d → Appended d n t out m → length out ≡ length d
appended_length {d} {t} {out} {n} {m} h p = ap length p.text ∙ length-paste d n t (length t) (omega (arith, p.end)) (omega arith)

pub walk_none : (f g a b d : List ℕ) → Walkable f a → Walkable g b → length d ≡ 65536 → Walked f g a b d d 0 0 0
walk_none f g a b d h k e = record {
  first = h;
  second = k;
  first_few = omega arith;
  second_few = omega arith;
  whole_room = e;
  size = refl;
  room = omega arith;
  text = [];
  stands = record { end = refl; text = refl };
  whole = refl;
}

module _ (f g a b d out : List ℕ) (i j n : ℕ) (w : Walked f g a b d out i j n) where
  -- one text more
  module _ (u o : List ℕ) (k l m : ℕ) (p : Appended out n u o m) (e : reported f g (drop i a) (drop j b) ≡ u ++ reported f g (drop k a) (drop l b)) (x : k ≤ length a) (y : l ≤ length b) (r : m ≤ 32 * (k + l)) where
    fits : m ≤ length d
    fits = omega (arith, w.whole_room, w.first.few, w.second.few)

    walk_more : Walked f g a b d o k l m
    walk_more = record {
      first = w.first;
      second = w.second;
      first_few = x;
      second_few = y;
      whole_room = w.whole_room;
      size = appended_length (omega (arith, fits, w.size)) p ∙ w.size;
      room = r;
      text = w.text ++ u;
      stands = and_then w.stands p fits;
      whole = append_assoc w.text u (reported f g (drop k a) (drop l b)) ∙ ap (λ (z : List ℕ). w.text ++ z) (sym e) ∙ w.whole;
    }

  pub first_next : next_serial (drop i a) < next_serial (drop j b) → i < length a
  first_next h = by_lt i (length a) (λ k. k) (λ k. absurd (omega (arith, next_none a i k, next_most b j w.second.each)))

  pub second_next : next_serial (drop j b) < next_serial (drop i a) → j < length b
  second_next h = by_lt j (length b) (λ k. k) (λ k. absurd (omega (arith, next_none b j k, next_most a i w.first.each)))

  pub both_next : next_serial (drop i a) ≡ next_serial (drop j b) → i + j < length a + length b → (i < length a) × (j < length b)
  both_next e h =
      by_lt i (length a)
      (λ k. (k, by_lt j (length b) (λ l. l) (λ l. absurd (omega (arith, next_none b j l, next_small a i w.first.each k)))))
      (λ k. absurd (omega (arith, next_none a i k, next_small b j w.second.each (omega (arith, w.first_few)))))

  -- the room for a report line
  pub room_left : i + j < length a + length b → n + 32 ≤ length out
  room_left h = omega (arith, w.room, w.size, w.whole_room, w.first.few, w.second.few)

  pub room_both : i < length a → j < length b → n + 64 ≤ length out
  room_both h k = omega (arith, w.room, w.size, w.whole_room, w.first.few, w.second.few)

  pub walk_first : next_serial (drop i a) < next_serial (drop j b) → (o : List ℕ) (m : ℕ) → Appended out n (saying first_text (line_in f (get_or a i 0)) []) o m → m ≤ n + 32 → Walked f g a b d o (i + 1) j m
  walk_first h o m p r =
      let k = first_next h in
      let c = drop-cons a i 0 k in
      let least : serial_in (get_or a i 0) < next_serial (drop j b) = omega (arith, next_there a i k) in
      let z : reported f g (drop i a) (drop j b) ≡ saying first_text (line_in f (get_or a i 0)) [] ++ reported f g (drop (i + 1) a) (drop j b) =
      ap (λ (l : List ℕ). reported f g l (drop j b)) c
      ∙ first_least f g (omega (arith, (each_at w.first.each i k).serial)) (subst Ascending c (rising_drop i w.first.rising)) (above_next (rising_drop j w.second.rising) least)
      ∙ ap (λ (q : ℕ). saying first_text (line_in f (get_or a i 0)) [] ++ reported f g (drop q a) (drop j b)) (sym (add-one i)) in
      walk_more _ o (i + 1) j m p z (omega (arith, k)) w.second_few (omega (arith, w.room))

  pub walk_second : next_serial (drop j b) < next_serial (drop i a) → (o : List ℕ) (m : ℕ) → Appended out n (saying second_text (line_in g (get_or b j 0)) []) o m → m ≤ n + 32 → Walked f g a b d o i (j + 1) m
  walk_second h o m p r =
      let k = second_next h in
      let c = drop-cons b j 0 k in
      let least : serial_in (get_or b j 0) < next_serial (drop i a) = omega (arith, next_there b j k) in
      let z : reported f g (drop i a) (drop j b) ≡ saying second_text (line_in g (get_or b j 0)) [] ++ reported f g (drop i a) (drop (j + 1) b) =
      ap (reported f g (drop i a)) c
      ∙ second_least f g (omega (arith, (each_at w.second.each j k).serial)) (subst Ascending c (rising_drop j w.second.rising)) (above_next (rising_drop i w.first.rising) least)
      ∙ ap (λ (q : ℕ). saying second_text (line_in g (get_or b j 0)) [] ++ reported f g (drop i a) (drop q b)) (sym (add-one j)) in
      walk_more _ o i (j + 1) m p z w.first_few (omega (arith, k)) (omega (arith, w.room))

  pub walk_both : next_serial (drop i a) ≡ next_serial (drop j b) → i + j < length a + length b → (o : List ℕ) (m : ℕ) → Appended out n (pair (line_in f (get_or a i 0)) (line_in g (get_or b j 0))) o m → m ≤ n + 64
      → Walked f g a b d o (i + 1) (j + 1) m
  walk_both e h o m p r =
      let k = both_next e h in
      let c = drop-cons a i 0 k.0 in
      let v = drop-cons b j 0 k.1 in
      let said = pair (line_in f (get_or a i 0)) (line_in g (get_or b j 0)) in
      let z : reported f g (drop i a) (drop j b) ≡ said ++ reported f g (drop (i + 1) a) (drop (j + 1) b) =
      ap₂ (reported f g) c v
      ∙ both_least f g (omega (arith, (each_at w.first.each i k.0).serial)) (next_there a i k.0 ∙ e ∙ sym (next_there b j k.1)) (subst Ascending c (rising_drop i w.first.rising)) (subst Ascending v (rising_drop j w.second.rising))
      ∙ ap₂ (λ (q t : ℕ). said ++ reported f g (drop q a) (drop t b)) (sym (add-one i)) (sym (add-one j)) in
      walk_more _ o (i + 1) (j + 1) m p z (omega (arith, k.0)) (omega (arith, k.1)) (omega (arith, w.room))

  pub walk_all : length a + length b ≤ i + j → Appended d 0 (reported f g a b) out n × (n ≤ 65536)
  walk_all h =
      let e : reported f g (drop i a) (drop j b) ≡ [] =
      ap₂ (reported f g) (drop_of_length-le a {i = i} (omega (arith, w.first_few, w.second_few))) (drop_of_length-le b {i = j} (omega (arith, w.first_few, w.second_few))) ∙ none_left f g in
      let t : w.text ≡ reported f g a b = sym (append-nil w.text) ∙ ap (λ (z : List ℕ). w.text ++ z) (sym e) ∙ w.whole in
      (subst (λ (z : List ℕ). Appended d 0 z out n) t w.stands, omega (arith, w.room, w.first_few, w.second_few, w.first.few, w.second.few))

-- two serials, as they were read
pub less : {p q x y : ℕ} → p ≡ x → q ≡ y → p < q → x < y
less e f h = omega arith

pub even : {p q x y : ℕ} → p ≡ x → q ≡ y → q ≤ p → p ≤ q → x ≡ y
even e f h k = omega arith

-- The shape of a line, byte by byte: each start of it has the shape, and what has the shape can be completed.
use Prim.Native.Nat.{ℕ, zero, suc, ◌+◌, ◌-◌, ◌*◌, ◌^◌, ◌≤◌, ◌<◌, zero-le}
use mathlib.Core.Path.{◌≡◌, refl, sym, ap, ap₂, subst, ◌∙◌}
use mathlib.Core.List.{List, [], ◌∷◌, ◌++◌, append-nil}
use mathlib.Core.Bool.{Bool, true, false, cond}
use native.Mathlib.Nat.{add-zero, add-suc, le_of_suc-le-suc, not-suc-le-zero, le_refl, le_trans, pow-le-pow_right}
use native.Mathlib.Omega.{arith}
use native.Mathlib.Numerals.{add-one}
use lib.ListN.{length, get_or, take, length-take, length-append, get_or-eq_default, get_or-append}
use lib.Seq.{get_or-take, take_all, get_or-append_seam, append_snoc}
use lib.Dec.{lit<, ltb, leb, eqb}
use borrow.Author.Tests.{lt-ltb, le-ltb, eq-eqb, ne_eqb, le-leb, leb-true, ltb-true}
use Rattle.words.proofs.Cases.{by_eq, by_lt, all_three}
use Rattle.frame.specs.Frames.{sealed_size}
use Rattle.line.specs.Reader.{hex_value, number_at, label_length, message_length, end_of, stands, fits}

-- every byte may stand where it stands, and the lengths are inside the limits
pub record Shape (s : List ℕ) : Type 0 where
  pub label : label_length s ≤ 32
  pub message : message_length s ≤ 1024
  pub bytes : (i : ℕ) → i < length s → stands i (get_or s i 48) (end_of s) ≡ true

pub record Whole (s : List ℕ) : Type 0 where
  pub shape : Shape s
  pub whole : length s ≡ end_of s + 1

-- ---- bytes and numbers

-- what counts past the end does not matter inside
pub inside : (s : List ℕ) (i : ℕ) → i < length s → get_or s i 48 ≡ get_or s i 0
inside [] i h = absurd (not-suc-le-zero h)
inside (x ∷ s) zero h = refl
inside (x ∷ s) (suc i) h = inside s i (le_of_suc-le-suc h)

pub hex_value_zero : hex_value 48 ≡ 0
unfolding hex_value
hex_value_zero = refl

pub hex_value_le : (b : ℕ) → hex_value b ≤ 16
unfolding hex_value
hex_value_le b = go (ltb b 48) (ltb b 58) (ltb b 97) (ltb b 103) refl refl
  where
    go : (t u v w : Bool) → ltb b 58 ≡ u → ltb b 103 ≡ w → cond t 16 (cond u (b - 48) (cond v 16 (cond w (b - 87) 16))) ≤ 16
    go true u v w p q = omega arith
    go false true v w p q = omega (arith, ltb-true b 58 p)
    go false false true w p q = omega arith
    go false false false true p q = omega (arith, ltb-true b 103 q)
    go false false false false p q = omega arith

pub num_bound : (s : List ℕ) (a n : ℕ) → number_at s a n + 2 ≤ 2 * 16 ^ n
unfolding number_at
num_bound s a zero = omega arith
num_bound s a (suc n) = omega (arith, num_bound s a n, hex_value_le (get_or s (a + n) 48))

pub num_zero : (s : List ℕ) (a : ℕ) → number_at s a 0 ≡ 0
unfolding number_at
num_zero s a = refl

pub num_small : (s : List ℕ) (a n : ℕ) → n ≤ 12 → number_at s a n < 2 ^ 49
num_small s a n h = omega (arith, num_bound s a n, pow-le-pow_right {n = 16} (lit< tt) h)

pub num_next : (s : List ℕ) (a n v d : ℕ) → v ≡ number_at s a n → d ≡ hex_value (get_or s (a + n) 48) → v * 16 + d ≡ number_at s a (n + 1)
unfolding number_at
num_next s a n v d p q = rw (p, q, add-one)

-- more digits make no smaller number
num_up : (l : List ℕ) (a n k : ℕ) → number_at l a n ≤ number_at l a (n + k)
unfolding number_at
num_up l a n zero = omega (arith, ap (number_at l a) (add-zero n))
num_up l a n (suc k) = rw (add-suc n k) (omega (arith, num_up l a n k))

-- so that there is room for the next digit, where there is room for all
pub num_room : (l : List ℕ) (a n i v : ℕ) → i < n → number_at l a n < 2 ^ 64 → v ≡ number_at l a i → v * 16 + hex_value (get_or l (a + i) 48) < 2 ^ 64
num_room l a n i v h room e =
    let all : i + 1 + (n - (i + 1)) ≡ n = omega arith in
    let up : number_at l a (i + 1) ≤ number_at l a n = subst (λ (k : ℕ). number_at l a (i + 1) ≤ number_at l a k) all (num_up l a (i + 1) (n - (i + 1))) in
    omega (arith, up, room, num_next l a i v (hex_value (get_or l (a + i) 48)) e refl)

pub digit_past : (s : List ℕ) (i : ℕ) → length s ≤ i → hex_value (get_or s i 48) ≡ 0
digit_past s i h = rw (get_or-eq_default s 48 {n = i} h, hex_value_zero)

module _ (s t : List ℕ) where
  num_same : (a n : ℕ) → ((i : ℕ) → a ≤ i → i < a + n → get_or s i 48 ≡ get_or t i 48) → number_at s a n ≡ number_at t a n
  unfolding number_at
  num_same a zero h = refl
  num_same a (suc n) h =
      ap₂ (λ (x y : ℕ). x * 16 + hex_value y) (num_same a n (λ i l u. h i l (omega arith))) (h (a + n) (omega arith) (omega arith))

  num_grows : (a n : ℕ) → ((i : ℕ) → hex_value (get_or s i 48) ≤ hex_value (get_or t i 48)) → number_at s a n ≤ number_at t a n
  unfolding number_at
  num_grows a zero h = omega arith
  num_grows a (suc n) h = omega (arith, num_grows a n h, h (a + n))

-- ---- `fits`, test by test

module _ (s : List ℕ) (i : ℕ) where
  pub fits_byte : (e : ℕ) → label_length (take (i + 1) s) ≤ 32 → message_length (take (i + 1) s) ≤ 1024 → i < length s
      → e ≡ end_of (take (i + 1) s) → stands i (get_or s i 0) e ≡ fits s i
  unfolding fits
  fits_byte e l m h q = simp (le-leb _ 32 l, le-leb _ 1024 m, inside s i h, q)

-- ---- a start of a line

pub end_far : (s : List ℕ) → 36 ≤ end_of s
end_far s = omega arith

stands_early : (i b e e' : ℕ) → i < e → i < e' → stands i b e ≡ stands i b e'
unfolding stands
stands_early i b e e' h h' = simp (lt-ltb i e h, lt-ltb i e' h')

module _ (s : List ℕ) (n : ℕ) where
  start_digit : (i : ℕ) → hex_value (get_or (take n s) i 48) ≤ hex_value (get_or s i 48)
  start_digit i =
      by_lt i n (λ h. rw get_or-take (le_refl _))
      (λ h. rw (get_or-eq_default (take n s) 48 {n = i} (omega (arith, length-take n s)), hex_value_zero) zero-le)

  -- the lengths stand in the first twenty bytes
  pub start_label : 20 ≤ n → label_length (take n s) ≡ label_length s
  start_label h = num_same (take n s) s 14 2 (λ i l u. get_or-take n s i 48 (omega arith))

  pub start_message : 20 ≤ n → message_length (take n s) ≡ message_length s
  start_message h = num_same (take n s) s 16 4 (λ i l u. get_or-take n s i 48 (omega arith))

  pub start_end : 20 ≤ n → end_of (take n s) ≡ end_of s
  start_end h = ap₂ (λ (x y : ℕ). 20 + 2 * (x + sealed_size y)) (start_label h) (start_message h)

  pub start_stands : (i b : ℕ) → i < n → stands i b (end_of (take n s)) ≡ stands i b (end_of s)
  start_stands i b h =
      by_lt n 20
      (λ u. stands_early i b (end_of (take n s)) (end_of s) (omega (arith, end_far (take n s))) (omega (arith, end_far s)))
      (λ u. ap (λ (e : ℕ). stands i b e) (start_end u))

  pub start_shape : Shape s → Shape (take n s)
  start_shape h =
      record {
        label = le_trans (num_grows (take n s) s 14 2 start_digit) h.label;
        message = le_trans (num_grows (take n s) s 16 4 start_digit) h.message;
        bytes = λ i l.
            let u : i < n = omega (arith, length-take n s) in
            rw get_or-take (start_stands i (get_or s i 48) u ∙ h.bytes i (omega (arith, length-take n s)));
      }

pub fit : (s : List ℕ) → Shape s → (i : ℕ) → i < length s → fits s i ≡ true
unfolding fits
fit s h i l =
    let p : Shape (take (i + 1) s) = start_shape s (i + 1) h in
    simp (le-leb _ _ p.label, le-leb _ _ p.message, start_stands s (i + 1) i (get_or s i 48) (omega arith), h.bytes i l)

pub shape_nil : Shape []
unfolding number_at hex_value
shape_nil = record { label = omega arith; message = omega arith; bytes = λ i h. absurd (not-suc-le-zero h) }

pub fit_parts : (s : List ℕ) (i : ℕ) → fits s i ≡ true →
    (label_length (take (i + 1) s) ≤ 32) × (message_length (take (i + 1) s) ≤ 1024) × (stands i (get_or s i 48) (end_of s) ≡ true)
unfolding fits
fit_parts s i h =
    let t : List ℕ = take (i + 1) s in
    let (a, b, c) = all_three (leb (label_length t) 32) (leb (message_length t) 1024) (stands i (get_or s i 48) (end_of t)) h in
    (leb-true _ _ a, leb-true _ _ b, sym (start_stands s (i + 1) i (get_or s i 48) (omega arith)) ∙ c)

-- where each byte fits after those before it, the whole has the shape
pub fitting : (s : List ℕ) → ((i : ℕ) → i < length s → fits s i ≡ true) → Shape s
fitting [] h = shape_nil
fitting (x ∷ s) h =
    let e : take (length s + 1) (x ∷ s) ≡ x ∷ s = take_all (length s + 1) (x ∷ s) (omega arith) in
    let (a, b, c) = fit_parts (x ∷ s) (length s) (h (length s) (le_refl _)) in
    record { label = rw e at a; message = rw e at b; bytes = λ i l. (fit_parts (x ∷ s) i (h i l)).2 }

-- ---- a start can be completed

-- a byte that may stand at place i of a line that ends at e
next : ℕ → ℕ → ℕ
next i e = cond (eqb i 1) 49 (cond (eqb i e) 10 48)

next_stands : (i e : ℕ) → 3 ≤ e → i ≤ e → stands i (next i e) e ≡ true
unfolding next stands hex_value
next_stands i e h l =
    by_eq i 0 (λ p. simp (eq-eqb i 0 p, ne_eqb i 1 (λ q. omega arith), ne_eqb i e (λ q. omega arith)))
    λ p. by_eq i 1 (λ q. simp (ne_eqb i 0 p, eq-eqb i 1 q))
    λ q. by_eq i 2 (λ r. simp (ne_eqb i 0 p, ne_eqb i 1 q, eq-eqb i 2 r, ne_eqb i e (λ q. omega arith)))
    λ r. by_eq i e (λ t. simp (ne_eqb i 0 p, ne_eqb i 1 q, ne_eqb i 2 r, eq-eqb i e t, le-ltb i e (omega arith)))
    λ t. simp (ne_eqb i 0 p, ne_eqb i 1 q, ne_eqb i 2 r, ne_eqb i e t, lt-ltb i e (omega arith))

next_zero : (i e : ℕ) → 14 ≤ i → i < 20 → 36 ≤ e → next i e ≡ 48
unfolding next
next_zero i e h l f = simp (ne_eqb i 1 (λ q. omega arith), ne_eqb i e (λ q. omega arith))

-- one more byte, which counted as '0' before it was there
kept : (p : List ℕ) (x i : ℕ) → (i ≡ length p → x ≡ 48) → get_or (p ++ x ∷ []) i 48 ≡ get_or p i 48
kept [] x zero h = h refl
kept [] x (suc i) h = refl
kept (y ∷ p) x zero h = refl
kept (y ∷ p) x (suc i) h = kept p x i (λ e. h (ap suc e))

more : List ℕ → List ℕ
more p = p ++ next (length p) (end_of p) ∷ []

module _ (p : List ℕ) where
  more_kept : (i : ℕ) → 14 ≤ i → i < 20 → get_or (more p) i 48 ≡ get_or p i 48
  unfolding more
  more_kept i a b = kept p _ i (λ e. next_zero (length p) (end_of p) (omega arith) (omega arith) (end_far p))

  more_label : label_length (more p) ≡ label_length p
  more_label = num_same (more p) p 14 2 (λ i a b. more_kept i a (omega arith))

  more_message : message_length (more p) ≡ message_length p
  more_message = num_same (more p) p 16 4 (λ i a b. more_kept i (omega arith) b)

  more_end : end_of (more p) ≡ end_of p
  more_end = ap₂ (λ (x y : ℕ). 20 + 2 * (x + sealed_size y)) more_label more_message

  more_length : length (more p) ≡ length p + 1
  unfolding more
  more_length = length-append p _

  more_shape : Shape p → length p ≤ end_of p → Shape (more p)
  unfolding more
  more_shape h l =
      record {
        label = rw more_label h.label;
        message = rw more_message h.message;
        bytes = λ i u.
            by_lt i (length p)
            (λ v. rw (more_end, get_or-append) (h.bytes i v))
            (λ v.
            let e : i ≡ length p = omega (arith, more_length) in
            rw (more_end, e, get_or-append_seam) (next_stands (length p) (end_of p) (omega (arith, end_far p)) l));
      }

-- n bytes are still to come
pub complete : (n : ℕ) (p : List ℕ) → Shape p → end_of p + 1 ≡ length p + n → (q : List ℕ) × Whole (p ++ q)
unfolding more
complete zero p h e = ([], rw append-nil (record { shape = h; whole = omega arith }))
complete (suc n) p h e =
    let l : length p ≤ end_of p = omega arith in
    let (q, g) = complete n (more p) (more_shape p h l) (omega (arith, more_end p, more_length p)) in
    (next (length p) (end_of p) ∷ q, rw append_snoc at g)

-- for the loop that reckons a number
pub ruleset numbers = (inside, digit_past, num_zero, num_next, num_small)

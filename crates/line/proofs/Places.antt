-- The answer that is computed is the paper's, and the paper's answer is only that.
use Prim.Native.Nat.{ℕ, zero, suc, ◌+◌, ◌-◌, ◌≤◌, ◌<◌, zero-le}
use mathlib.Core.Path.{◌≡◌, refl, sym, ap, ◌∙◌, subst}
use mathlib.Core.List.{List, ◌++◌}
use mathlib.Core.Bool.{Bool, true, false, cond}
use native.Mathlib.Nat.{le_refl, lt_irrefl, not-le_of_lt}
use native.Mathlib.Omega.{arith}
use lib.ListN.{length, get_or, take, drop, take-append-drop, length-take}
use lib.Seq.{get_or-take, take-append_seam, take-take}
use lib.Dec.{eqb}
use borrow.Author.Tests.{le-ltb, eq-eqb, ne_eqb, eqb-true}
use Rattle.words.proofs.Cases.{by_lt, by_eq, both, clash}
use Rattle.line.proofs.Shape.{Shape, end_far, start_shape, start_label, start_message, start_end, fits_byte, fit, fit_parts, fitting, complete}
use Rattle.line.proofs.Good.{whole_good}
use Rattle.line.proofs.Written.{good_whole, line_fields}
use Rattle.line.specs.Line.{Frame, LineOf, GoodLine, Begins, Place, wrong, short, Reading, not_line, placed, fields_of, Reads, fields, refused}
use Rattle.line.specs.Reader.{serial_of, label_length, message_length, end_of, stands, fits, first, place, good, reading}

-- ---- what begins a good line

pub past_end : (i b e : ℕ) → 3 ≤ i → e < i → stands i b e ≡ false
unfolding stands
past_end i b e h l =
    simp (ne_eqb i 0 (λ q. omega arith), ne_eqb i 1 (λ q. omega arith), ne_eqb i 2 (λ q. omega arith), le-ltb i e (omega arith), ne_eqb i e (λ q. omega arith))

pub shape_length : (p : List ℕ) → Shape p → length p ≤ end_of p + 1
shape_length p h =
    by_lt (end_of p + 1) (length p)
    (λ l.
    let e : true ≡ false = sym (h.bytes (end_of p + 1) l) ∙ past_end (end_of p + 1) _ (end_of p) (omega (arith, end_far p)) (omega arith) in
    let z : ◌≡◌ {A = ℕ} 0 1 = cc in
    omega arith)
    (λ l. l)

begins : (p : List ℕ) → Shape p → Begins p
begins p h = let (q, w) = complete (end_of p + 1 - length p) p h (omega (arith, shape_length p h)) in (q, whole_good (p ++ q) w)

begun : (p : List ℕ) → Begins p → Shape p
begun p (q, g) = rw take-append_seam at (start_shape (p ++ q) (length p) (good_whole (p ++ q) g).shape)

-- ---- the place

pub record First (f : ℕ → Bool) (n k m : ℕ) : Type 0 where
  pub low : k ≤ m
  pub high : m ≤ k + n
  pub passed : (j : ℕ) → k ≤ j → j < m → f j ≡ true
  pub failed : m < k + n → f m ≡ false

first_is : (f : ℕ → Bool) (n k : ℕ) → First f n k (first f n k)
first_is f zero k = record { low = omega arith; high = omega arith; passed = λ j l u. absurd (not-le_of_lt u l); failed = λ l. absurd (lt_irrefl k (omega arith)) }
first_is f (suc n) k = go (f k) refl (first_is f n (suc k))
  where
    go : (t : Bool) → f k ≡ t → First f n (suc k) (first f n (suc k)) → First f (suc n) k (cond t (first f n (suc k)) k)
    go true e r =
        record {
          low = omega arith;
          high = omega arith;
          passed = λ j l u. by_eq j k (λ q. rw q e) (λ q. r.passed j (omega arith) u);
          failed = λ l. r.failed (omega arith);
        }
    go false e r = record { low = omega arith; high = omega arith; passed = λ j l u. absurd (not-le_of_lt u l); failed = λ l. e }

pub place_is : (s : List ℕ) → First (fits s) (length s) 0 (place s)
unfolding place
place_is s = first_is (fits s) (length s) 0

-- ---- the search for it, as the code does it

module _ (s : List ℕ) where
  pub place_within : place s ≤ length s
  place_within = omega (arith, (place_is s).high)

  -- the byte at k may stand there: the place is farther on
  pub place_farther : (k : ℕ) → k < length s → k ≤ place s → fits s k ≡ true → k + 1 ≤ place s
  place_farther k l h t = by_eq k (place s) (λ e. absurd (clash (fits s k) t (rw e ((place_is s).failed (omega arith))))) (λ e. omega arith)

  -- it may not: this is the place
  pub place_here : (k : ℕ) → k < length s → k ≤ place s → fits s k ≡ false → k ≡ place s
  place_here k l h f = by_lt k (place s) (λ u. absurd (clash (fits s k) ((place_is s).passed k zero-le u) f)) (λ u. omega arith)

  -- no byte is left
  pub all_stand : (k : ℕ) → length s ≤ k → k ≤ place s → k ≡ place s
  all_stand k l h = omega (arith, place_within)

  -- behind the lengths only the place of the 0A counts
  pub fits_late : (k e : ℕ) → 20 ≤ place s → 20 ≤ k → k < length s → e ≡ end_of s → stands k (get_or s k 0) e ≡ fits s k
  fits_late k e p h l q =
      let (a, b, c) = fit_parts s 19 ((place_is s).passed 19 zero-le p) in
      let x : label_length (take (k + 1) s) ≤ 32 = rw (start_label s (k + 1) (omega arith), ← start_label s 20 (le_refl 20)) a in
      let y : message_length (take (k + 1) s) ≤ 1024 = rw (start_message s (k + 1) (omega arith), ← start_message s 20 (le_refl 20)) b in
      fits_byte s k e x y l (q ∙ sym (start_end s (k + 1) (omega arith)))

pub fits_start : (s : List ℕ) (n i : ℕ) → i < n → fits (take n s) i ≡ fits s i
unfolding fits
fits_start s n i l = rw (take-take (i + 1) n s (omega arith), get_or-take n s i 48)

module _ (s : List ℕ) where
  -- the first k bytes begin a good line where each of them fits, and then only
  fit_begins : (k : ℕ) → ((i : ℕ) → i < k → fits s i ≡ true) → Begins (take k s)
  fit_begins k h = begins (take k s) (fitting (take k s) (λ i l. let u : i < k = omega (arith, length-take k s) in fits_start s k i u ∙ h i u))

  begins_fit : (i : ℕ) → i < length s → Begins (take (i + 1) s) → fits s i ≡ true
  begins_fit i l b =
      sym (fits_start s (i + 1) i (omega arith)) ∙ fit (take (i + 1) s) (begun (take (i + 1) s) b) i (omega (arith, length-take (i + 1) s))

  short_place : Shape s → place s ≡ length s
  short_place h =
      by_lt (place s) (length s)
      (λ l. absurd (clash _ (fit s h (place s) l) ((place_is s).failed (omega arith))))
      (λ l. omega (arith, (place_is s).high))

  place_short : place s ≡ length s → Shape s
  place_short e = fitting s (λ i l. (place_is s).passed i zero-le (omega arith))

  good_line : GoodLine s → good s ≡ true
  unfolding good
  good_line g = simp (eq-eqb (place s) (length s) (short_place (good_whole s g).shape), eq-eqb (length s) (end_of s + 1) (good_whole s g).whole)

  pub line_good : good s ≡ true → GoodLine s
  unfolding good
  line_good e =
      let (a, b) = both (eqb (place s) (length s)) (eqb (length s) (end_of s + 1)) e in
      whole_good s (record { shape = place_short (eqb-true (place s) (length s) a); whole = eqb-true (length s) (end_of s + 1) b })

  place_refused : (GoodLine s → ⊥) → Place s (place s)
  place_refused n =
      by_lt (place s) (length s)
      (λ l.
      wrong l
      (λ j u. fit_begins (j + 1) (λ i v. (place_is s).passed i zero-le (omega arith)))
      (λ b. clash _ (begins_fit (place s) l b) ((place_is s).failed (omega arith))))
      (λ l. let e : place s ≡ length s = omega (arith, (place_is s).high) in short (begins s (place_short e)) n e)

  refused_place : (k : ℕ) → Place s k → k ≡ place s
  refused_place k (short b n e) = e ∙ sym (short_place (begun s b))
  refused_place k (wrong l a b) =
      by_lt k (place s)
      (λ u. absurd (b (fit_begins (k + 1) (λ i v. (place_is s).passed i zero-le (omega arith)))))
      (λ u. by_lt (place s) k
      (λ v. absurd (clash _ (begins_fit (place s) (omega arith) (a (place s) v)) ((place_is s).failed (omega arith))))
      (λ v. omega arith))

  -- ---- the answer that is computed is the paper's, and the paper's answer is only that

  bad_reading : good s ≡ false → reading s ≡ not_line (place s)
  unfolding reading
  bad_reading e = simp e

  read_fields : (f : Frame) → LineOf s f → fields_of f ≡ reading s
  unfolding reading
  read_fields f l = let (a, b, c) = line_fields s f l in simp (good_line (f, l), a, b, c)

  -- a line with a place is not good
  placed_bad : (k : ℕ) → Place s k → GoodLine s → ⊥
  placed_bad k (wrong l p q) g = q (drop (k + 1) s, subst GoodLine (sym (take-append-drop (k + 1) s)) g)
  placed_bad k (short b n e) g = n g

  -- ---- by cases, as the code answers

  pub read_wrong : (k : ℕ) → k ≡ place s → k < length s → not_line k ≡ reading s
  unfolding reading good
  read_wrong k e l = simp (e, ne_eqb (place s) (length s) (λ q. omega arith))

  pub read_short : (k : ℕ) → k ≡ place s → length s ≤ k → (k ≡ end_of s + 1 → ⊥) → not_line k ≡ reading s
  unfolding reading good
  read_short k e l h =
      let w : k ≡ length s = omega (arith, place_within s) in
      simp (sym e, ne_eqb (length s) (end_of s + 1) (λ x. h (w ∙ x)), eq-eqb k (length s) w)

  pub read_good : (k a b c : ℕ) → k ≡ place s → length s ≤ k → k ≡ end_of s + 1 → a ≡ serial_of s → b ≡ label_length s → c ≡ message_length s
      → placed a b c ≡ reading s
  unfolding reading good
  read_good k a b c e l h x y z =
      let w : k ≡ length s = omega (arith, place_within s) in
      simp (sym e, eq-eqb k (length s) w, eq-eqb (length s) (end_of s + 1) (sym w ∙ h), x, y, z)

  pub reading_reads : Reads s (reading s)
  reading_reads = go (good s) refl
    where
      go : (t : Bool) → good s ≡ t → Reads s (reading s)
      go true e = let (f, l) = line_good e in subst (Reads s) (read_fields f l) (fields f l)
      go false e =
          let n : GoodLine s → ⊥ = λ g. clash _ (good_line g) e in
          subst (Reads s) (sym (bad_reading e)) (refused (place s) (place_refused n))

  pub reads_reading : (r : Reading) → Reads s r → r ≡ reading s
  reads_reading r (fields f l) = read_fields f l
  reads_reading r (refused k h) = go (good s) refl
    where
      go : (t : Bool) → good s ≡ t → not_line k ≡ reading s
      go true e = absurd (placed_bad k h (line_good e))
      go false e = ap not_line (refused_place k h) ∙ sym (bad_reading e)

-- two answers that the paper allows are one
pub reads_one : (s : List ℕ) (r r' : Reading) → Reads s r → Reads s r' → r ≡ r'
reads_one s r r' p q = reads_reading s r p ∙ sym (reads_reading s r' q)

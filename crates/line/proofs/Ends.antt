-- Where a line ends: what is too long, and bytes after the 0A.
use Prim.Native.Nat.{ℕ, suc, ◌+◌, ◌/◌, ◌≤◌, ◌<◌, zero-le}
use mathlib.Core.Path.{◌≡◌, sym, ap, subst, ◌∙◌}
use mathlib.Core.List.{List, ◌∷◌, ◌++◌}
use mathlib.Core.Bool.{Bool, true, false, cond}
use native.Mathlib.Nat.{le_of_suc-le-suc, lt_irrefl, not-le_of_lt, div-lt_iff_lt-mul}
use native.Mathlib.Omega.{arith}
use lib.ListN.{length, take, length-take, length-append}
use lib.Seq.{take_all, take-append_seam}
use lib.Dec.{lit<}
use borrow.Author.Tests.{ne_eqb}
use Rattle.words.proofs.Cases.{by_lt, clash, not_true_false}
use Rattle.line.proofs.Shape.{Shape, end_far, start_end, fit, fit_parts, fitting}
use Rattle.line.proofs.Written.{good_whole}
use Rattle.std.specs.Prelude.{Ok, Err}
use Rattle.line.specs.Line.{GoodLine, Reading, not_line, placed}
use Rattle.line.specs.Reader.{serial_of, label_length, message_length, end_of, fits, place, good, reading}
use Rattle.line.proofs.Places.{past_end, shape_length, First, place_is, fits_start, place_within, all_stand, place_farther, place_here, fits_late}

-- ---- a long line: its first 2150 bytes decide

shape_short : (s : List ℕ) → Shape s → length s ≤ 2149
shape_short s h =
    let m : (message_length s + 7) / 8 ≤ 128 = le_of_suc-le-suc ((div-lt_iff_lt-mul {k = 8} (lit< tt)).1 (omega (arith, h.message))) in
    omega (arith, shape_length s h, h.label)

first_only : (f : ℕ → Bool) (n m j : ℕ) → First f n 0 m → j < n → ((i : ℕ) → i < j → f i ≡ true) → f j ≡ false → m ≡ j
first_only f n m j r l p q =
    by_lt m j (λ u. absurd (clash _ (p m u) (r.failed (omega arith))))
    (λ u. by_lt j m (λ v. absurd (clash _ (r.passed j zero-le v) q)) (λ v. omega arith))

reading_bad : (s : List ℕ) → place s < length s → reading s ≡ not_line (place s)
unfolding reading good
reading_bad s l = simp (ne_eqb (place s) (length s) (λ q. omega arith))

place_early : (s : List ℕ) → 2150 ≤ length s → place s < 2150
place_early s l =
    by_lt (place s) 2150 (λ u. u)
    (λ u.
    let p : Shape (take 2150 s) =
    fitting (take 2150 s)
    (λ i v. let w : i < 2150 = omega (arith, length-take 2150 s) in fits_start s 2150 i w ∙ (place_is s).passed i zero-le (omega arith))
    in
    absurd (not-le_of_lt (lit< {m = 2149} {n = 2150} tt) (omega (arith, shape_short (take 2150 s) p, length-take 2150 s))))

pub long_line : (s : List ℕ) (n : ℕ) → 2150 ≤ n → reading (take n s) ≡ reading s
long_line s n l =
    by_lt n (length s)
    (λ u.
    let k : place s < 2150 = place_early s (omega arith) in
    let v : place s < length (take n s) = omega (arith, length-take n s) in
    let e : place (take n s) ≡ place s =
    first_only (fits (take n s)) (length (take n s)) (place (take n s)) (place s) (place_is (take n s)) v
    (λ i w. fits_start s n i (omega arith) ∙ (place_is s).passed i zero-le w)
    (fits_start s n (place s) (omega arith) ∙ (place_is s).failed (omega arith))
    in
    reading_bad (take n s) (omega arith) ∙ ap not_line e ∙ sym (reading_bad s (omega arith)))
    (λ u. rw (take_all n s u))

-- a line of 2150 bytes or more is refused
pub long_bad : (s : List ℕ) → 2150 ≤ length s → reading s ≡ not_line (place s)
long_bad s l = reading_bad s (omega (arith, place_early s l))

-- ---- "Bytes after the 0A are refused at the first of them."

pub after_end : (s : List ℕ) (b : ℕ) (t : List ℕ) → GoodLine s → reading (s ++ b ∷ t) ≡ not_line (length s)
after_end s b t g =
    let u = s ++ b ∷ t in
    let w = good_whole s g in
    let size : length u ≡ length s + suc (length t) = length-append s (b ∷ t) in
    let start : take (length s) u ≡ s = take-append_seam s (b ∷ t) in
    let same : end_of s ≡ end_of u = ap end_of (sym start) ∙ start_end u (length s) (omega (arith, w.whole, end_far s)) in
    let passed : (i : ℕ) → i < length s → fits u i ≡ true =
    λ i l. sym (fits_start u (length s) i l) ∙ ap (λ (x : List ℕ). fits x i) start ∙ fit s w.shape i l in
    let failed : fits u (length s) ≡ false =
    not_true_false (fits u (length s)) (λ e. clash _ (fit_parts u (length s) e).2 (past_end (length s) _ (end_of u) (omega (arith, w.whole, end_far s)) (omega (arith, w.whole, same)))) in
    let here : place u ≡ length s = first_only (fits u) (length u) (place u) (length s) (place_is u) (omega (arith, size)) passed failed in
    reading_bad u (omega (arith, here, size)) ∙ ap not_line here

-- a place is small: no good line is longer than 2149 bytes
pub place_small : (s : List ℕ) → place s < 2150
place_small s = by_lt (length s) 2150 (λ l. omega (arith, (place_is s).high)) (place_early s)

-- the place of a reading that has one
place_in : Reading → ℕ
place_in (Ok f) = 0
place_in (Err e) = e.place

pub bad_small : (s : List ℕ) (k : ℕ) → reading s ≡ not_line k → k < 2150
unfolding reading place_in
bad_small s k h = go (good s) h
  where
    go : (t : Bool) → cond t (placed (serial_of s) (label_length s) (message_length s)) (not_line (place s)) ≡ not_line k → k < 2150
    go true p = let z : ◌≡◌ {A = ℕ} 0 1 = cc in absurd (lt_irrefl 0 (omega arith))
    go false p = subst (λ (x : ℕ). x < 2150) (ap place_in p) (place_small s)

-- for the loops that search the place
pub ruleset places = (place_within, all_stand, place_farther, place_here, fits_late, place_small)

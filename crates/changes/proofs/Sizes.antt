-- How long a report can be: 19 bytes for each line of the first file and 20 for each of the second are enough, so that 39,936 bytes of room always are.
use Prim.Native.Nat.{ℕ, zero, suc, ◌+◌, ◌*◌, ◌/◌, ◌%◌, ◌^◌, ◌≤◌, ◌<◌}
use mathlib.Core.Bool.{Bool, true, false, cond}
use mathlib.Core.Path.{◌≡◌, refl, ap, subst}
use mathlib.Core.List.{List, [], ◌∷◌, ◌++◌}
use native.Mathlib.Nat.{pow-suc, div-lt_iff_lt-mul}
use native.Mathlib.Omega.{arith}
use borrow.Author.Tests.{lt-ltb, le-ltb}
use lib.Bits.{xor_lt}
use lib.Count.{ones-le}
use lib.Dec.{eqb, lit<}
use lib.ListN.{length, drop, length-append, length-take, length-drop}
use Rattle.words.specs.Digits.{◌⊕◌, Digits, none as no_digits, more as more_digits}
use Rattle.words.proofs.Cases.{by_lt, by_eq}
use Rattle.words.proofs.Laws.{digits_take, digits_drop}
use Rattle.texts.specs.Lines.{lines_of, line_length}
use Rattle.texts.specs.Texts.{spelled, decimal}
use Rattle.changes.specs.Report.{differ_at, bits_of, first_text, second_text, both_text, serial_digits, saying, pair, report}
use Rattle.changes.specs.Compare.{Good, checked}
use Rattle.changes.specs.Workings.{serial_in, start_in, line_in, HandleIn, Each, none, more, none as none_above, more as more_above, Ascending, none as none_rising, more as more_rising, reported, handles_of, GoodHandles}
use Rattle.changes.proofs.Serials.{above_less}
use Rattle.changes.proofs.Pairs.{pair_same, pair_other, pair_differs}
use Rattle.changes.proofs.Walks.{first_least, second_least, both_least, none_left}
use Rattle.changes.proofs.Files.{handles_walkable, handles_report}

-- ---- numbers

some_left : (n j : ℕ) → 10 ≤ n → n < 10 ^ suc j → (1 ≤ j) × (n / 10 < 10 ^ j)
some_left n zero h l = absurd (omega arith)
some_left n (suc j) h l = (omega arith, (div-lt_iff_lt-mul {k = 10} (lit< tt)).1 (rw pow-suc at l))

spelled_short : (k n j : ℕ) → n < 10 ^ suc j → length (spelled k n) ≤ suc j
unfolding spelled
spelled_short zero n j l = omega arith
spelled_short (suc k) n j l =
    by_lt n 10
    (λ h. simp (lt-ltb n 10 h) (omega arith))
    (λ h.
    simp (le-ltb n 10 h)
    (fewer j (some_left n j h l) (λ i q. spelled_short k (n / 10) i q)))
  where
    fewer : (j : ℕ) → (1 ≤ j) × (n / 10 < 10 ^ j) → ((i : ℕ) → n / 10 < 10 ^ suc i → length (spelled k (n / 10)) ≤ suc i) → length (spelled k (n / 10) ++ (n % 10 + 48) ∷ []) ≤ suc j
    fewer zero h r = absurd (omega (arith, h.0))
    fewer (suc j) h r = omega (arith, length-append (spelled k (n / 10)) ((n % 10 + 48) ∷ []), r j h.1)

-- ---- a pair of lines

differ_within : (x y : List ℕ) → differ_at x y ≤ length x
unfolding differ_at
differ_within [] [] = omega arith
differ_within [] (b ∷ y) = omega arith
differ_within (a ∷ x) [] = omega arith
differ_within (a ∷ x) (b ∷ y) = go (eqb a b) (differ_within x y)
  where
    go : (t : Bool) → differ_at x y ≤ length x → cond t (suc (differ_at x y)) 0 ≤ suc (length x)
    go true h = omega arith
    go false h = omega arith

bits_few : {x y : List ℕ} → Digits 8 x → Digits 8 y → bits_of x y ≤ 8 * length x
unfolding bits_of
bits_few no_digits no_digits = omega arith
bits_few no_digits (more_digits h k) = omega arith
bits_few (more_digits h k) no_digits = omega arith
bits_few (more_digits {d = a} {ds = x} h k) (more_digits {d = b} {ds = y} h' k') = omega (arith, bits_few k k', ones-le 8 (a ⊕ b) (xor_lt 8 a b h h'))

digits_few : (l : List ℕ) → length (serial_digits l) ≤ 12
digits_few l = omega (arith, length-take 12 (drop 2 l))

said_length : (w l n : List ℕ) → length (saying w l n) ≤ length w + length n + 13
unfolding saying
said_length w l n =
    omega (arith, length-append w (serial_digits l ++ (n ++ (10 ∷ []))), length-append (serial_digits l) (n ++ (10 ∷ [])), length-append n (10 ∷ []), digits_few l)

pair_short : (x y : List ℕ) → length x ≤ 65536 → Digits 8 x → Digits 8 y → length (pair x y) ≤ 39
pair_short x y h d e =
    by_eq (length x) (length y)
    (λ p.
    by_eq (differ_at x y) (length x)
    (λ q. subst (λ (l : List ℕ). length l ≤ 39) (pair_same x y p q) (omega arith))
    (λ q.
    let place = spelled_short 20 (differ_at x y) 4 (omega (arith, differ_within x y)) in
    let bits = spelled_short 20 (bits_of x y) 5 (omega (arith, bits_few d e)) in
    subst (λ (l : List ℕ). length l ≤ 39) (pair_differs x y p q)
    (omega (arith, said_length both_text x (32 ∷ (decimal (differ_at x y) ++ (32 ∷ decimal (bits_of x y)))), length-append (decimal (differ_at x y)) (32 ∷ decimal (bits_of x y)), place, bits))))
    (λ p. subst (λ (l : List ℕ). length l ≤ 39) (pair_other x y p) (omega (arith, said_length both_text x [])))

-- ---- the report from the handles

module _ (f g : List ℕ) (small : length f ≤ 65536) (bytes : Digits 8 f) (bytes' : Digits 8 g) where
  line_short : (x : ℕ) → length (line_in f x) ≤ 65536
  line_short x = omega (arith, length-take (line_length (drop (start_in x) f)) (drop (start_in x) f), length-drop (start_in x) f)

  line_bytes : (s : List ℕ) (x : ℕ) → Digits 8 s → Digits 8 (line_in s x)
  line_bytes s x d = digits_take (line_length (drop (start_in x) s)) (digits_drop (start_in x) d)

  Short : List ℕ → List ℕ → Type 0
  Short a b = length (reported f g a b) ≤ 19 * length a + 20 * length b

  first_short : (x : ℕ) (a b : List ℕ) → Short a b → reported f g (x ∷ a) b ≡ saying first_text (line_in f x) [] ++ reported f g a b → Short (x ∷ a) b
  unfolding Short
  first_short x a b h e = omega (arith, ap length e, length-append (saying first_text (line_in f x) []) (reported f g a b), said_length first_text (line_in f x) [], h)

  second_short : (y : ℕ) (a b : List ℕ) → Short a b → reported f g a (y ∷ b) ≡ saying second_text (line_in g y) [] ++ reported f g a b → Short a (y ∷ b)
  unfolding Short
  second_short y a b h e = omega (arith, ap length e, length-append (saying second_text (line_in g y) []) (reported f g a b), said_length second_text (line_in g y) [], h)

  both_short : (x y : ℕ) (a b : List ℕ) → Short a b → reported f g (x ∷ a) (y ∷ b) ≡ pair (line_in f x) (line_in g y) ++ reported f g a b → Short (x ∷ a) (y ∷ b)
  unfolding Short
  both_short x y a b h e =
      omega (arith, ap length e, length-append (pair (line_in f x) (line_in g y)) (reported f g a b), pair_short (line_in f x) (line_in g y) (line_short x) (line_bytes f x bytes) (line_bytes g y bytes'), h)

  serial_small : (s : List ℕ) (x : ℕ) → HandleIn s x → serial_in x < 2 ^ 44
  serial_small s x k = omega (arith, k.serial)

  short : {a b : List ℕ} → Ascending a → Ascending b → Each f a → Each g b → Short a b
  unfolding Short
  short none_rising none_rising none none = omega (arith, ap length (none_left f g))
  short (more_rising {x = x} {xs = a} r s) none_rising (more k e) none = first_short x a [] (short s none_rising e none) (first_least f g (serial_small f x k) (more_rising r s) none_above)
  short none_rising (more_rising {x = y} {xs = b} u v) none (more l d) = second_short y [] b (short none_rising v none d) (second_least f g (serial_small g y l) (more_rising u v) none_above)
  short (more_rising {x = x} {xs = a} r s) (more_rising {x = y} {xs = b} u v) (more k e) (more l d) =
      by_lt (serial_in x) (serial_in y)
      (λ h. first_short x a (y ∷ b) (short s (more_rising u v) e (more l d)) (first_least f g (serial_small f x k) (more_rising r s) (more_above h (above_less (omega arith) u))))
      (λ h.
      by_eq (serial_in x) (serial_in y)
      (λ q. both_short x y a b (short s v e d) (both_least f g (serial_small f x k) q (more_rising r s) (more_rising u v)))
      (λ q.
      let below : serial_in y < serial_in x = by_lt (serial_in y) (serial_in x) (λ z. z) (λ z. absurd (q (omega arith))) in
      second_short y (x ∷ a) b (short (more_rising r s) v (more k e) d) (second_least f g (serial_small g y l) (more_rising u v) (more_above below (above_less (omega arith) r)))))

-- no report of two good files is longer
pub report_small : (f g : List ℕ) → Digits 8 f → Digits 8 g → checked f ≡ Good → checked g ≡ Good → length (report (lines_of f) (lines_of g)) ≤ 39936
unfolding Short
report_small f g d e h k =
    let a : GoodHandles f (handles_of f) = record { good = h; made = refl } in
    let b : GoodHandles g (handles_of g) = record { good = k; made = refl } in
    let w = handles_walkable a in
    let z = handles_walkable b in
    omega (arith, ap length (handles_report a b), short f g w.small d e w.rising z.rising w.each z.each, w.few, z.few)

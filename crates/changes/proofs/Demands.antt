-- Request 5's sentences about the report: "Every difference once, and none that isn't there", "by rising serial"; equal files give an empty report; exchanging the files exchanges `first` and `second`.
use Prim.Native.Nat.{ℕ, zero, suc, ◌+◌, ◌-◌, ◌/◌, ◌^◌, ◌≤◌, ◌<◌}
use mathlib.Core.Bool.{Bool, cond}
use mathlib.Core.Logic.{◌⊎◌, inl, inr}
use mathlib.Core.Path.{◌≡◌, refl, sym, ap, ap₂, subst, ◌∙◌}
use mathlib.Core.List.{List, [], ◌∷◌, ◌++◌}
use native.Mathlib.Nat.{pow-suc, div-lt_iff_lt-mul}
use native.Mathlib.Omega.{arith}
use borrow.Author.Tests.{eq-eqb, ne_eqb}
use lib.Bits.{xor_comm, xor_self, xor_zero_l, xor_zero_r}
use lib.Count.{ones, ones_step}
use lib.Dec.{eqb, lit<}
use lib.ListN.{length, take, get_or}
use Rattle.words.specs.Digits.{◌⊕◌}
use Rattle.cells.proofs.Xor.{assoc}
use Rattle.words.proofs.Cases.{by_lt, by_eq}
use Rattle.changes.specs.Report.{differ_at, bits_of, first_text, second_text, both_text, serial_digits, saying, numbers, pair, change, under, rising, report}
use Rattle.changes.proofs.Pairs.{pair_same, pair_other, pair_differs}
use Rattle.texts.specs.Texts.{decimal}
use lib.Seq.{take_at, drop_at}
use Rattle.line.specs.Line.{Frame, LineOf, line_of, hex_digits, Reads, fields, refused}
use Rattle.line.specs.Reader.{serial_of, reading}
use Rattle.line.specs.Line.{Reading}
use Rattle.line.proofs.Hex.{length_hex_digits}
use Rattle.line.proofs.Places.{reading_reads}
use Rattle.changes.specs.Compare.{Checked, Good, line_as, read_all}
use Rattle.changes.proofs.Handles.{fields_serial}
use Rattle.changes.proofs.Files.{under_here, under_other}
use Rattle.changes.proofs.Walks.{rising_same, rising_none, rising_at}

-- ---- two lines: `pair` says nothing exactly of the same line twice

-- where two lines of one length do not differ they are the same
differ_none : (x y : List ℕ) → length x ≡ length y → differ_at x y ≡ length x → x ≡ y
unfolding differ_at
differ_none [] [] h e = refl
differ_none [] (b ∷ y) h e = absurd (omega (arith, h))
differ_none (a ∷ x) [] h e = absurd (omega (arith, h))
differ_none (a ∷ x) (b ∷ y) h e = go (differ_none x y) (by_eq a b inl inr)
  where
    go : (length x ≡ length y → differ_at x y ≡ length x → x ≡ y) → (a ≡ b) ⊎ (a ≡ b → ⊥) → a ∷ x ≡ b ∷ y
    go r (inl p) = ap₂ ◌∷◌ p (r (omega (arith, h)) (omega (arith, sym (ap (λ (t : Bool). cond t (suc (differ_at x y)) 0) (eq-eqb a b p)) ∙ e)))
    go r (inr p) = absurd (omega (arith, sym (ap (λ (t : Bool). cond t (suc (differ_at x y)) 0) (ne_eqb a b p)) ∙ e))

differ_self : (x : List ℕ) → differ_at x x ≡ length x
unfolding differ_at
differ_self [] = refl
differ_self (a ∷ x) = ap (λ (t : Bool). cond t (suc (differ_at x x)) 0) (eq-eqb a a refl) ∙ ap suc (differ_self x)

-- "the place of the first differing byte": the bytes before it are the same, and those at it are not
pub first_place : (x y : List ℕ) → length x ≡ length y → (x ≡ y → ⊥)
    → (differ_at x y < length x) × (take (differ_at x y) x ≡ take (differ_at x y) y) × (get_or x (differ_at x y) 0 ≡ get_or y (differ_at x y) 0 → ⊥)
unfolding differ_at
first_place [] [] h n = absurd (n refl)
first_place [] (b ∷ y) h n = absurd (omega (arith, h))
first_place (a ∷ x) [] h n = absurd (omega (arith, h))
first_place (a ∷ x) (b ∷ y) h n = go (first_place x y) (by_eq a b inl inr)
  where
    P : ℕ → Type 0
    P k = (k < suc (length x)) × (take k (a ∷ x) ≡ take k (b ∷ y)) × (get_or (a ∷ x) k 0 ≡ get_or (b ∷ y) k 0 → ⊥)

    go : (length x ≡ length y → (x ≡ y → ⊥) → (differ_at x y < length x) × (take (differ_at x y) x ≡ take (differ_at x y) y) × (get_or x (differ_at x y) 0 ≡ get_or y (differ_at x y) 0 → ⊥))
        → (a ≡ b) ⊎ (a ≡ b → ⊥) → P (cond (eqb a b) (suc (differ_at x y)) 0)
    go r (inl p) =
        let s = r (omega (arith, h)) (λ q. n (ap₂ ◌∷◌ p q)) in
        subst (λ (t : Bool). P (cond t (suc (differ_at x y)) 0)) (sym (eq-eqb a b p)) (omega (arith, s.0), ap₂ ◌∷◌ p s.1, s.2)
    go r (inr p) = subst (λ (t : Bool). P (cond t (suc (differ_at x y)) 0)) (sym (ne_eqb a b p)) (omega arith, refl, p)

-- the same line twice: nothing is said
pub same_silent : (x : List ℕ) → pair x x ≡ []
same_silent x = sym (pair_same x x refl (differ_self x))

-- two lines that are not the same: something is said
pub pair_said_of : (x y : List ℕ) → (x ≡ y → ⊥) → pair x y ≡ saying both_text x (numbers x y)
unfolding numbers
pair_said_of x y n =
    by_eq (length x) (length y)
    (λ h. sym (pair_differs x y h (λ e. n (differ_none x y h e))) ∙ ap (λ (t : Bool). saying both_text x (cond t (32 ∷ (decimal (differ_at x y) ++ (32 ∷ decimal (bits_of x y)))) [])) (sym (eq-eqb (length x) (length y) h)))
    (λ h. sym (pair_other x y h) ∙ ap (λ (t : Bool). saying both_text x (cond t (32 ∷ (decimal (differ_at x y) ++ (32 ∷ decimal (bits_of x y)))) [])) (sym (ne_eqb (length x) (length y) h)))

-- ---- "Every difference once, and none that isn't there", "by rising serial"

-- what is said of a serial t, in its place: behind what is said of the lower ones, and before what is said of the higher ones
pub each_once : (a b : List (List ℕ)) (t : ℕ) → t < 2 ^ 44
    → report a b ≡ rising (λ s. change (under s a) (under s b)) t 0 ++ (change (under t a) (under t b) ++ rising (λ s. change (under s a) (under s b)) (2 ^ 44 - (t + 1)) (t + 1))
unfolding report
each_once a b t h = rising_at (λ s. change (under s a) (under s b)) (2 ^ 44) t h

-- ---- equal files give an empty report

change_same : (a : List (List ℕ)) → change a a ≡ []
unfolding change
change_same [] = refl
change_same (x ∷ a) = same_silent x

-- the same lines, in whatever order
pub same_empty : (a b : List (List ℕ)) → ((t : ℕ) → under t a ≡ under t b) → report a b ≡ []
unfolding report
same_empty a b h =
    rising_none (λ s. change (under s a) (under s b)) (2 ^ 44) 0
    (λ t l. ap (λ (x : List (List ℕ)). change (under t a) x) (sym (h t)) ∙ change_same (under t a))

pub equal_empty : (a : List (List ℕ)) → report a a ≡ []
equal_empty a = same_empty a a (λ t. refl)

-- ---- exchanging the files exchanges `first` and `second` and leaves the rest

differ_swap : (x y : List ℕ) → differ_at x y ≡ differ_at y x
unfolding differ_at
differ_swap [] [] = refl
differ_swap [] (b ∷ y) = refl
differ_swap (a ∷ x) [] = refl
differ_swap (a ∷ x) (b ∷ y) = go (differ_swap x y)
  where
    go : differ_at x y ≡ differ_at y x → cond (eqb a b) (suc (differ_at x y)) 0 ≡ cond (eqb b a) (suc (differ_at y x)) 0
    go r =
        by_eq a b
        (λ e. ap₂ (λ (t : Bool) (k : ℕ). cond t (suc k) 0) (eq-eqb a b e ∙ sym (eq-eqb b a (sym e))) r)
        (λ e. ap₂ (λ (t : Bool) (k : ℕ). cond t (suc k) 0) (ne_eqb a b e ∙ sym (ne_eqb b a (λ q. e (sym q)))) r)

bits_swap : (x y : List ℕ) → bits_of x y ≡ bits_of y x
unfolding bits_of
bits_swap [] [] = refl
bits_swap [] (b ∷ y) = refl
bits_swap (a ∷ x) [] = refl
bits_swap (a ∷ x) (b ∷ y) = ap₂ (λ (m n : ℕ). ones m + n) (xor_comm a b) (bits_swap x y)

numbers_swap : (x y : List ℕ) → numbers x y ≡ numbers y x
unfolding numbers
numbers_swap x y =
    by_eq (length x) (length y)
    (λ e.
    ap (λ (t : Bool). cond t (said (differ_at x y) (bits_of x y)) []) (eq-eqb (length x) (length y) e)
    ∙ ap₂ said (differ_swap x y) (bits_swap x y)
    ∙ sym (ap (λ (t : Bool). cond t (said (differ_at y x) (bits_of y x)) []) (eq-eqb (length y) (length x) (sym e))))
    (λ e.
    ap (λ (t : Bool). cond t (said (differ_at x y) (bits_of x y)) []) (ne_eqb (length x) (length y) e)
    ∙ sym (ap (λ (t : Bool). cond t (said (differ_at y x) (bits_of y x)) []) (ne_eqb (length y) (length x) (λ q. e (sym q)))))
  where
    said : ℕ → ℕ → List ℕ
    said k n = 32 ∷ (decimal k ++ (32 ∷ decimal n))

said_of : (w x y n : List ℕ) → serial_digits x ≡ serial_digits y → saying w x n ≡ saying w y n
unfolding saying
said_of w x y n e = ap (λ (d : List ℕ). w ++ (d ++ (n ++ (10 ∷ [])))) e

pub pair_swap : (x y : List ℕ) → serial_digits x ≡ serial_digits y → pair x y ≡ pair y x
pair_swap x y d =
    by_eq (length x) (length y)
    (λ h.
    by_eq (differ_at x y) (length x)
    (λ e. sym (pair_same x y h e) ∙ pair_same y x (sym h) (differ_swap y x ∙ e ∙ h))
    (λ e.
    sym (pair_differs x y h e)
    ∙ said_of both_text x y _ d
    ∙ ap₂ (λ (k n : ℕ). saying both_text y (32 ∷ (decimal k ++ (32 ∷ decimal n)))) (differ_swap x y) (bits_swap x y)
    ∙ pair_differs y x (sym h) (λ q. e (differ_swap x y ∙ q ∙ sym h))))
    (λ h. sym (pair_other x y h) ∙ said_of both_text x y [] d ∙ pair_other y x (λ q. h (sym q)))

-- the twelve digits of a good line are its serial's
line_digits : (l : List ℕ) (f : Frame) → LineOf l f → serial_digits l ≡ hex_digits 12 f.serial
unfolding line_of
line_digits l f h =
    ap serial_digits h.line
    ∙ ap (take 12) (drop_at (hex_digits 2 1) _ 2 (length_hex_digits 2 1))
    ∙ take_at (hex_digits 12 f.serial) _ 12 (length_hex_digits 12 f.serial)

good_digits : (n : ℕ) (l : List ℕ) (x : Checked) → line_as n (reading l) x ≡ Good → (serial_digits l ≡ hex_digits 12 (serial_of l)) × (x ≡ Good)
good_digits n l x e = go (reading l) (reading_reads l) e
  where
    go : (r : Reading) → Reads l r → line_as n r x ≡ Good → (serial_digits l ≡ hex_digits 12 (serial_of l)) × (x ≡ Good)
    go r (fields f k) q =
        let s = fields_serial l r _ (fields f k) refl in
        (line_digits l f k ∙ ap (hex_digits 12) s.0, q)
    go r (refused j p) q = let z : ◌≡◌ {A = ℕ} 0 1 = cc in absurd (omega arith)

-- the first of the lines of a serial has its digits
pub under_digits : (t n : ℕ) (ls : List (List ℕ)) → read_all n ls ≡ Good → (x : List ℕ) (xs : List (List ℕ)) → under t ls ≡ x ∷ xs → serial_digits x ≡ hex_digits 12 t
unfolding read_all under
under_digits t n [] e x xs q = let z : ◌≡◌ {A = ℕ} 0 1 = cc in absurd (omega arith)
under_digits t n (l ∷ ls) e x xs q =
    let g = good_digits n l (read_all (n + 1) ls) e in
    by_eq (serial_of l) t
    (λ h.
    let p : l ∷ under t ls ≡ x ∷ xs = sym (under_here t l ls h) ∙ q in
    let same : l ≡ x = cc in
    ap serial_digits (sym same) ∙ g.0 ∙ ap (hex_digits 12) h)
    (λ h. under_digits t (n + 1) ls g.1 x xs (sym (under_other t l ls h) ∙ q))

-- `change` with `first` and `second` exchanged
pub swapped : List (List ℕ) → List (List ℕ) → List ℕ
swapped [] [] = []
swapped (x ∷ xs) [] = saying second_text x []
swapped [] (y ∷ ys) = saying first_text y []
swapped (x ∷ xs) (y ∷ ys) = pair x y

change_swap : (t : ℕ) (a b : List (List ℕ)) → ((x : List ℕ) (xs : List (List ℕ)) → a ≡ x ∷ xs → serial_digits x ≡ hex_digits 12 t) → ((y : List ℕ) (ys : List (List ℕ)) → b ≡ y ∷ ys → serial_digits y ≡ hex_digits 12 t)
    → change b a ≡ swapped a b
unfolding change swapped
change_swap t [] [] p q = refl
change_swap t (x ∷ a) [] p q = refl
change_swap t [] (y ∷ b) p q = refl
change_swap t (x ∷ a) (y ∷ b) p q = pair_swap y x (q y b refl ∙ sym (p x a refl))

pub exchange : (a b : List (List ℕ)) → read_all 0 a ≡ Good → read_all 0 b ≡ Good → report b a ≡ rising (λ s. swapped (under s a) (under s b)) (2 ^ 44) 0
unfolding report
exchange a b g h =
    rising_same (λ s. change (under s b) (under s a)) (λ s. swapped (under s a) (under s b)) (2 ^ 44) 0
    (λ t l. change_swap t (under t a) (under t b) (under_digits t 0 a g) (under_digits t 0 b h))

-- ---- two lines of one length that are not the same differ in a bit

ones_none : (d n : ℕ) → n < 2 ^ d → ones n ≡ 0 → n ≡ 0
ones_none zero n h e = omega (arith, h)
ones_none (suc d) n h e =
    let step = ones_step n in
    let half : n / 2 ≡ 0 = ones_none d (n / 2) ((div-lt_iff_lt-mul {k = 2} (lit< tt)).1 (rw pow-suc at h)) (omega (arith, e, step)) in
    omega (arith, e, step, half)

below_power : (n : ℕ) → n < 2 ^ n
below_power zero = omega arith
below_power (suc n) = rw pow-suc (omega (arith, below_power n))

xor_none : (a b : ℕ) → a ⊕ b ≡ 0 → a ≡ b
xor_none a b e = sym (xor_zero_r a) ∙ ap (λ (z : ℕ). a ⊕ z) (sym (xor_self b)) ∙ sym (assoc a b b) ∙ ap (λ (z : ℕ). z ⊕ b) e ∙ xor_zero_l b

byte_differs : (a b : ℕ) → (a ≡ b → ⊥) → 1 ≤ ones (a ⊕ b)
byte_differs a b n =
    by_lt 0 (ones (a ⊕ b)) (λ h. h)
    (λ h. absurd (n (xor_none a b (ones_none (a ⊕ b) (a ⊕ b) (below_power (a ⊕ b)) (omega (arith, h))))))

pub bits_some : (x y : List ℕ) → length x ≡ length y → (x ≡ y → ⊥) → 1 ≤ bits_of x y
unfolding bits_of
bits_some [] [] h n = absurd (n refl)
bits_some [] (b ∷ y) h n = absurd (omega (arith, h))
bits_some (a ∷ x) [] h n = absurd (omega (arith, h))
bits_some (a ∷ x) (b ∷ y) h n =
    by_eq a b
    (λ e. let r = bits_some x y (omega (arith, h)) (λ q. n (ap₂ ◌∷◌ e q)) in omega (arith, r))
    (λ e. let r = byte_differs a b e in omega (arith, r))

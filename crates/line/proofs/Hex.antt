-- Digits and the numbers that they write, and the line of a frame in them.
use Prim.Native.Nat.{ℕ, zero, suc, ◌+◌, ◌-◌, ◌*◌, ◌/◌, ◌%◌, ◌^◌, ◌≤◌, ◌<◌}
use mathlib.Core.Path.{◌≡◌, refl, sym, ap, ap₂, ◌∙◌}
use mathlib.Core.List.{List, [], ◌∷◌, ◌++◌, map, append_assoc}
use mathlib.Core.Bool.{Bool, true, false, cond}
use native.Mathlib.Nat.{lt_irrefl, div-add-mod', mod-lt, div-lt_iff_lt-mul, pow-suc, mul_comm, div-one, div-eq_of_lt, div-div-eq-div-mul}
use native.Mathlib.Omega.{arith}
use lib.ListN.{length, get_or, length-append}
use lib.Seq.{append_snoc, get_or_at}
use lib.Dec.{ltb, lit<}
use borrow.Author.Tests.{lt-ltb, le-ltb, ltb-true, ltb-false}
use Rattle.words.specs.Digits.{digits}
use Rattle.words.proofs.Cases.{by_lt}
use Rattle.line.specs.Line.{hex_digit, hex_digits, hex, Frame, line_of}
use Rattle.line.specs.Reader.{hex_value, number_at}

pub value_digit : (n : ℕ) → n < 16 → hex_value (hex_digit n) ≡ n
unfolding hex_value hex_digit
value_digit n h =
    by_lt n 10
    (λ l. simp (lt-ltb n 10 l, le-ltb (n + 48) 48 (omega arith), lt-ltb (n + 48) 58 (omega arith)) (omega arith))
    (λ l.
    simp (le-ltb n 10 l, le-ltb (n + 87) 48 (omega arith), le-ltb (n + 87) 58 (omega arith), le-ltb (n + 87) 97 (omega arith), lt-ltb (n + 87) 103 (omega arith))
    (omega arith))

-- the digits of a number: none, or one more behind those of its sixteenth
map_append : (f : ℕ → ℕ) (l r : List ℕ) → map f (l ++ r) ≡ map f l ++ map f r
map_append f [] r = refl
map_append f (x ∷ l) r = ap (λ (z : List ℕ). f x ∷ z) (map_append f l r)

pub hex_none : (n : ℕ) → hex_digits 0 n ≡ []
unfolding hex_digits
hex_none n = refl

pub hex_more : (k n : ℕ) → hex_digits (suc k) n ≡ hex_digits k (n / 16) ++ hex_digit (n % 16) ∷ []
unfolding hex_digits
hex_more k n = map_append hex_digit (digits 4 k (n / 16)) (n % 16 ∷ [])

pub length_hex_digits : (k n : ℕ) → length (hex_digits k n) ≡ k
length_hex_digits zero n = ap length (hex_none n)
length_hex_digits (suc k) n = ap length (hex_more k n) ∙ length-append (hex_digits k (n / 16)) _ ∙ rw (length_hex_digits k (n / 16)) (omega arith)

pub digit_value : (b : ℕ) → hex_value b < 16 → hex_digit (hex_value b) ≡ b
unfolding hex_value hex_digit
digit_value b = go (ltb b 48) (ltb b 58) (ltb b 97) (ltb b 103) refl refl refl refl
  where
    go : (t u v w : Bool) → ltb b 48 ≡ t → ltb b 58 ≡ u → ltb b 97 ≡ v → ltb b 103 ≡ w →
        cond t 16 (cond u (b - 48) (cond v 16 (cond w (b - 87) 16))) < 16 → hex_digit (cond t 16 (cond u (b - 48) (cond v 16 (cond w (b - 87) 16)))) ≡ b
    go true u v w p q r x h = absurd (lt_irrefl 16 h)
    go false true v w p q r x h =
        let l : 48 ≤ b = ltb-false b 48 p in
        let m : b < 58 = ltb-true b 58 q in
        simp (lt-ltb (b - 48) 10 (omega arith)) (omega arith)
    go false false true w p q r x h = absurd (lt_irrefl 16 h)
    go false false false true p q r x h =
        let l : 97 ≤ b = ltb-false b 97 r in
        simp (le-ltb (b - 87) 10 (omega arith)) (omega arith)
    go false false false false p q r x h = absurd (lt_irrefl 16 h)

-- the number that is read is the one that was written
pub num_digits : (xs ys : List ℕ) (a k n : ℕ) → length xs ≡ a → n < 16 ^ k → number_at (xs ++ (hex_digits k n ++ ys)) a k ≡ n
unfolding number_at
num_digits xs ys a zero n e h = omega arith
num_digits xs ys a (suc k) n e h =
    let d : ℕ = hex_digit (n % 16) in
    let ds : List ℕ = hex_digits k (n / 16) in
    let l : n / 16 < 16 ^ k = (div-lt_iff_lt-mul {k = 16} (lit< tt)).1 (rw pow-suc at h) in
    let p : xs ++ ((ds ++ d ∷ []) ++ ys) ≡ xs ++ (ds ++ (d ∷ ys)) = ap (λ (z : List ℕ). xs ++ z) (append_snoc ds d ys) in
    let q : get_or (xs ++ (ds ++ (d ∷ ys))) (a + k) 48 ≡ d =
    ap (λ (z : List ℕ). get_or z (a + k) 48) (sym (append_assoc xs ds (d ∷ ys)))
    ∙ get_or_at (xs ++ ds) d ys 48 (a + k) (length-append xs ds ∙ ap₂ (λ (x y : ℕ). x + y) e (length_hex_digits k (n / 16)))
    in
    ap (λ (z : List ℕ). number_at z a (suc k)) (ap (λ (z : List ℕ). xs ++ (z ++ ys)) (hex_more k n) ∙ p)
    ∙ ap₂ (λ (x y : ℕ). x * 16 + y) (num_digits xs (d ∷ ys) a k (n / 16) e l) (ap hex_value q ∙ value_digit (n % 16) (mod-lt n (lit< tt)))
    ∙ div-add-mod' n 16

pub length_hex : (l : List ℕ) → length (hex l) ≡ 2 * length l
unfolding hex
length_hex [] = refl
length_hex (b ∷ l) = omega (arith, length-append (hex_digits 2 b) (hex l), length_hex_digits 2 b, length_hex l)

-- ---- the top digit of a serial

digit_first : (k n : ℕ) → hex_digits (suc k) n ≡ hex_digit (n / 16 ^ k % 16) ∷ hex_digits k n
unfolding hex_digits
digit_first zero n = rw div-one
digit_first (suc k) n =
    hex_more (suc k) n
    ∙ ap (λ (l : List ℕ). l ++ hex_digit (n % 16) ∷ []) (digit_first k (n / 16))
    ∙ ap (λ (l : List ℕ). hex_digit (n / 16 / 16 ^ k % 16) ∷ l) (sym (hex_more k n))
    ∙ ap (λ (x : ℕ). hex_digit (x % 16) ∷ hex_digits (suc k) n) (div-div-eq-div-mul n 16 (16 ^ k) ∙ ap (λ (x : ℕ). n / x) (mul_comm 16 (16 ^ k) ∙ sym (pow-suc 16 k)))

-- the digits of a line, with version and top digit as they stand
unfoldable pub shown : Frame → List ℕ
shown f =
    (48 ∷ 49 ∷ 48 ∷ [])
    ++ (hex_digits 11 f.serial ++ (hex_digits 2 (length f.label) ++ (hex_digits 4 f.message_length ++ (hex f.label ++ (hex f.sealed ++ (10 ∷ []))))))

serial_first : (n : ℕ) → n < 2 ^ 44 → hex_digits 12 n ≡ 48 ∷ hex_digits 11 n
unfolding hex_digit
serial_first n h = digit_first 11 n ∙ ap (λ (x : ℕ). hex_digit (x % 16) ∷ hex_digits 11 n) (div-eq_of_lt {n = n} {m = 16 ^ 11} h)

pub line_shown : (f : Frame) → f.serial < 2 ^ 44 → line_of f ≡ shown f
unfolding line_of shown hex_digits hex_digit
line_shown f h =
    ap (λ (l : List ℕ). 48 ∷ 49 ∷ (l ++ (hex_digits 2 (length f.label) ++ (hex_digits 4 f.message_length ++ (hex f.label ++ (hex f.sealed ++ (10 ∷ []))))))) (serial_first f.serial h)

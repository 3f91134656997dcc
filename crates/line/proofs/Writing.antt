-- What is written of a line, part by part.
use Prim.Native.Nat.{ℕ, zero, suc, ◌+◌, ◌-◌, ◌*◌, ◌/◌, ◌%◌, ◌≤◌, ◌<◌}
use mathlib.Core.Path.{◌≡◌, refl, sym, ap, ◌∙◌}
use mathlib.Core.List.{List, [], ◌∷◌, ◌++◌, append_assoc, append-nil}
use native.Mathlib.Nat.{le_refl}
use native.Mathlib.Numerals.{add-one, sub-one}
use native.Mathlib.Omega.{arith}
use borrow.Rule.Slice.PartMut.{put_mid}
use lib.ListN.{length, get_or, take, drop, set, length-append, length-drop, drop_of_length-le}
use lib.Seq.{drop-cons, lt-length-set, get_or-set_same, drop-set-lt, take-suc, length-take-le, set_at}
use Rattle.words.proofs.Laws.{mid_turn, middle}
use Rattle.line.specs.Line.{hex_digit, hex_digits, hex, Frame, line_of}
use Rattle.line.specs.Calls.{frame_of}
use Rattle.line.proofs.Hex.{length_hex, length_hex_digits, hex_more}

-- the last digit of x goes to i - 1
pub digits_turn : (i x : ℕ) (out : List ℕ) → 0 < i → i ≤ length out
    → hex_digits (i - 1) (x / 16) ++ drop (i - 1) (set out (i - 1) (hex_digit (x % 16))) ≡ hex_digits i x ++ drop i out
digits_turn zero x out h k = absurd (omega arith)
digits_turn (suc i) x out h k =
    rw (sub-one, hex_more i x, append_assoc, drop-cons (set out i (hex_digit (x % 16))) i 0 (lt-length-set out i _ k), get_or-set_same out i _ 0 k, drop-set-lt (suc i) out i _ (le_refl (suc i)))

hex_append : (l r : List ℕ) → hex (l ++ r) ≡ hex l ++ hex r
unfolding hex
hex_append [] r = refl
hex_append (b ∷ l) r = ap (λ (x : List ℕ). hex_digits 2 b ++ x) (hex_append l r) ∙ sym (append_assoc (hex_digits 2 b) (hex l) (hex r))

hex_one : (b : ℕ) → hex (b ∷ []) ≡ hex_digits 2 b
unfolding hex
hex_one b = append-nil (hex_digits 2 b)

-- the digits of byte i go behind those of the bytes before it
pub hex_turn : (l d out ys : List ℕ) (i : ℕ) → i < length l → out ≡ hex (take i l) ++ drop (2 * i) d → ys ≡ hex_digits 2 (get_or l i 0)
    → put_mid (2 * i) (2 * i + 2 - 2 * i) out ys ≡ hex (take (i + 1) l) ++ drop (2 * (i + 1)) d
hex_turn l d out ys i h o y =
    let size : length (hex (take i l)) ≡ 2 * i = length_hex (take i l) ∙ ap (λ (x : ℕ). 2 * x) (length-take-le i l (omega arith)) in
    let more : hex (take (i + 1) l) ≡ hex (take i l) ++ hex_digits 2 (get_or l i 0) =
    ap hex (ap (λ (x : ℕ). take x l) (add-one i) ∙ take-suc l i 0 h) ∙ hex_append (take i l) (get_or l i 0 ∷ []) ∙ ap (λ (x : List ℕ). hex (take i l) ++ x) (hex_one (get_or l i 0)) in
    rw (o, y, more) (mid_turn (hex (take i l)) d _ (2 * i) (2 * i + 2 - 2 * i) (2 * (i + 1)) size (omega arith))

-- digits go behind b, where what was there is d
pub next_part : (b d out y : List ℕ) (a k e v : ℕ) → length b ≡ a → a + k ≡ e → e ≤ length d → out ≡ b ++ drop a d → y ≡ hex_digits (length (take (e - a) (drop a out))) v
    → (put_mid a (e - a) out y ≡ (b ++ hex_digits k v) ++ drop e d) × (length (b ++ hex_digits k v) ≡ e)
next_part b d out y a k e v hb he hd o w =
    let fits : e ≤ length out = rw o (simp (length-append, length-drop) (omega arith)) in
    let made : y ≡ hex_digits k v = w ∙ ap (λ (j : ℕ). hex_digits j v) (middle a k e out he fits) in
    (rw (o, made) (mid_turn b d (hex_digits k v) a (e - a) e hb (omega arith)), length-append b (hex_digits k v) ∙ omega (arith, length_hex_digits k v))

-- version, serial and lengths, each in its place
pub head_put : (d y1 y2 y3 y4 : List ℕ) (serial l n : ℕ) → length d ≡ 20
    → y1 ≡ hex_digits (length (take 2 d)) 1
    → y2 ≡ hex_digits (length (take 12 (drop 2 (y1 ++ drop 2 d)))) serial
    → y3 ≡ hex_digits (length (take 2 (drop 14 (put_mid 2 12 (y1 ++ drop 2 d) y2)))) l
    → y4 ≡ hex_digits (length (take 4 (drop 16 (put_mid 14 2 (put_mid 2 12 (y1 ++ drop 2 d) y2) y3)))) n
    → put_mid 16 4 (put_mid 14 2 (put_mid 2 12 (y1 ++ drop 2 d) y2) y3) y4 ≡ hex_digits 2 1 ++ (hex_digits 12 serial ++ (hex_digits 2 l ++ hex_digits 4 n))
head_put d y1 y2 y3 y4 serial l n h e1 e2 e3 e4 =
    let b1 : List ℕ = hex_digits 2 1 in
    let b2 : List ℕ = b1 ++ hex_digits 12 serial in
    let b3 : List ℕ = b2 ++ hex_digits 2 l in
    let p1 = next_part [] d d y1 0 2 2 1 refl refl (omega arith) refl e1 in
    let p2 = next_part b1 d (y1 ++ drop 2 d) y2 2 12 14 serial p1.1 refl (omega arith) p1.0 e2 in
    let p3 = next_part b2 d (put_mid 2 12 (y1 ++ drop 2 d) y2) y3 14 2 16 l p2.1 refl (omega arith) p2.0 e3 in
    let p4 = next_part b3 d (put_mid 14 2 (put_mid 2 12 (y1 ++ drop 2 d) y2) y3) y4 16 4 20 n p3.1 refl (omega arith) p3.0 e4 in
    p4.0
    ∙ ap (λ (x : List ℕ). (b3 ++ hex_digits 4 n) ++ x) (drop_of_length-le d {i = 20} (omega arith))
    ∙ append-nil (b3 ++ hex_digits 4 n)
    ∙ append_assoc b2 (hex_digits 2 l) (hex_digits 4 n)
    ∙ append_assoc b1 (hex_digits 12 serial) (hex_digits 2 l ++ hex_digits 4 n)

-- the head, the digits of the label, those of the sealed bytes, the 0A
pub line_put : (d y1 y2 y3 a c : List ℕ) (serial n at end : ℕ) → 20 + 2 * (length a + length c) + 1 ≤ length d → at ≡ 20 + 2 * length a → end ≡ at + 2 * length c
    → y1 ≡ hex_digits 2 1 ++ (hex_digits 12 serial ++ (hex_digits 2 (length a) ++ hex_digits 4 n)) → y2 ≡ hex a → y3 ≡ hex c
    → set (put_mid at (end - at) (put_mid 20 (at - 20) (y1 ++ drop 20 d) y2) y3) end 10 ≡ line_of (frame_of serial a n c) ++ drop (20 + 2 * (length a + length c) + 1) d
unfolding line_of
line_put d y1 y2 y3 a c serial n at end h p q e1 e2 e3 =
    let head : List ℕ = hex_digits 2 1 ++ (hex_digits 12 serial ++ (hex_digits 2 (length a) ++ hex_digits 4 n)) in
    let l1 : length head ≡ 20 = simp (length-append, length_hex_digits) in
    let l2 : length (head ++ hex a) ≡ at = length-append head (hex a) ∙ omega (arith, length_hex a) in
    let l3 : length ((head ++ hex a) ++ hex c) ≡ end = length-append (head ++ hex a) (hex c) ∙ omega (arith, length_hex c) in
    let o2 : put_mid 20 (at - 20) (y1 ++ drop 20 d) y2 ≡ (head ++ hex a) ++ drop at d = rw (e1, e2) (mid_turn head d (hex a) 20 (at - 20) at l1 (omega arith)) in
    let o3 : put_mid at (end - at) (put_mid 20 (at - 20) (y1 ++ drop 20 d) y2) y3 ≡ ((head ++ hex a) ++ hex c) ++ drop end d =
    rw (o2, e3) (mid_turn (head ++ hex a) d (hex c) at (end - at) end l2 (omega arith)) in
    let z : suc end ≡ 20 + 2 * (length a + length c) + 1 = omega arith in
    ap (λ (x : List ℕ). set x end 10) (o3 ∙ ap (λ (x : List ℕ). ((head ++ hex a) ++ hex c) ++ x) (drop-cons d end 0 (omega arith)))
    ∙ set_at ((head ++ hex a) ++ hex c) (get_or d end 0) (drop (suc end) d) 10 end l3
    ∙ ap (λ (k : ℕ). ((head ++ hex a) ++ hex c) ++ 10 ∷ drop k d) z
    ∙ simp append_assoc

-- how long the line of a frame is
pub line_length_lem : (f : Frame) → length (line_of f) ≡ 20 + 2 * (length f.label + length f.sealed) + 1
unfolding line_of
line_length_lem f = simp (length-append, length_hex_digits, length_hex) (omega arith)

-- What has the shape of a line and its length is the line of a frame.
use Prim.Native.Nat.{ℕ, zero, suc, ◌+◌, ◌*◌, ◌^◌, ◌≤◌, ◌<◌}
use mathlib.Core.Path.{◌≡◌, refl, sym, ap, ap₂, ◌∙◌}
use mathlib.Core.List.{List, [], ◌∷◌, ◌++◌, append_assoc}
use mathlib.Core.Bool.{true}
use native.Mathlib.Nat.{le_refl, mul-zero, add-zero, pow-suc}
use native.Mathlib.Omega.{arith}
use lib.ListN.{length, get_or, drop, drop_of_length-le}
use lib.Seq.{append_snoc, drop-cons}
use lib.Arith.{digits_lt, digits_div, digits_mod}
use lib.Dec.{lit<}
use borrow.Author.Tests.{lt-ltb, le-ltb, ltb-true, eq-eqb, ne_eqb, eqb-true}
use Rattle.words.specs.Digits.{Digits, none, more}
use Rattle.frame.specs.Frames.{sealed_size}
use Rattle.line.specs.Line.{hex_digits, hex, Frame, GoodLine}
use Rattle.line.specs.Reader.{hex_value, number_at, serial_of, label_length, message_length, end_of, bytes_at, stands}
use Rattle.line.proofs.Shape.{Whole, end_far}
use Rattle.line.proofs.Hex.{hex_none, hex_more, digit_value, shown, line_shown}

length_bytes_at : (s : List ℕ) (a n : ℕ) → length (bytes_at s a n) ≡ n
length_bytes_at s a zero = refl
length_bytes_at s a (suc n) = ap suc (length_bytes_at s (a + 2) n)

module _ (s : List ℕ) where
  peel : (a k : ℕ) → a + k ≤ length s → ((i : ℕ) → a ≤ i → i < a + k → hex_value (get_or s i 48) < 16)
      → drop a s ≡ hex_digits k (number_at s a k) ++ drop (a + k) s
  unfolding number_at
  peel a zero l h = rw (hex_none 0, add-zero)
  peel a (suc k) l h =
      let b : ℕ = get_or s (a + k) 48 in
      let v : hex_value b < 16 = h (a + k) (omega arith) (omega arith) in
      let e : a + suc k ≡ suc (a + k) = omega arith in
      peel a k (omega arith) (λ i x y. h i x (omega arith))
      ∙ ap (λ (z : List ℕ). hex_digits k (number_at s a k) ++ z) (drop-cons s (a + k) 48 (omega arith))
      ∙ sym (append_snoc (hex_digits k (number_at s a k)) b (drop (suc (a + k)) s))
      ∙ rw (hex_more k, digits_div (number_at s a k) {m = 16} v, digits_mod (number_at s a k) {m = 16} v, digit_value b v, e)

  peel_hex : (a n : ℕ) → a + 2 * n ≤ length s → ((i : ℕ) → a ≤ i → i < a + 2 * n → hex_value (get_or s i 48) < 16)
      → drop a s ≡ hex (bytes_at s a n) ++ drop (a + 2 * n) s
  unfolding hex
  peel_hex a zero l h = rw (mul-zero, add-zero)
  peel_hex a (suc n) l h =
      let e : (a + 2) + 2 * n ≡ a + 2 * suc n = omega arith in
      peel a 2 (omega arith) (λ i x y. h i x (omega arith))
      ∙ ap (λ (z : List ℕ). hex_digits 2 (number_at s a 2) ++ z) (peel_hex (a + 2) n (omega arith) (λ i x y. h i (omega arith) (omega arith)))
      ∙ sym (append_assoc (hex_digits 2 (number_at s a 2)) (hex (bytes_at s (a + 2) n)) (drop ((a + 2) + 2 * n) s))
      ∙ rw e

-- what `stands` says at each place
stands_digit : (i b e : ℕ) → 3 ≤ i → i < e → stands i b e ≡ true → hex_value b < 16
unfolding stands
stands_digit i b e l h p =
    ltb-true (hex_value b) 16 (simp (ne_eqb i 0 (λ q. omega arith), ne_eqb i 1 (λ q. omega arith), ne_eqb i 2 (λ q. omega arith), lt-ltb i e h) at p)

stands_end : (b e : ℕ) → 3 ≤ e → stands e b e ≡ true → b ≡ 10
unfolding stands
stands_end b e l p =
    eqb-true b 10 (simp (ne_eqb e 0 (λ q. omega arith), ne_eqb e 1 (λ q. omega arith), ne_eqb e 2 (λ q. omega arith), le-ltb e e (le_refl e), eq-eqb e e refl) at p)

pub num_below : (s : List ℕ) (a k : ℕ) → ((i : ℕ) → a ≤ i → i < a + k → hex_value (get_or s i 48) < 16) → number_at s a k < 16 ^ k
unfolding number_at
num_below s a zero h = lit< tt
num_below s a (suc k) h = rw pow-suc (digits_lt (num_below s a k (λ i x y. h i x (omega arith))) (h (a + k) (omega arith) (omega arith)))

bytes_at_lem : (s : List ℕ) (a n : ℕ) → ((i : ℕ) → a ≤ i → i < a + 2 * n → hex_value (get_or s i 48) < 16) → Digits 8 (bytes_at s a n)
bytes_at_lem s a zero h = none
bytes_at_lem s a (suc n) h =
    more (num_below s a 2 (λ i x y. h i x (omega arith))) (bytes_at_lem s (a + 2) n (λ i x y. h i (omega arith) (omega arith)))

-- the frame whose line stands in s
abbrev frame_at : List ℕ → Frame
frame_at s =
    record {
      serial = serial_of s;
      label = bytes_at s 20 (label_length s);
      message_length = message_length s;
      sealed = bytes_at s (20 + 2 * label_length s) (sealed_size (message_length s));
    }

module _ (s : List ℕ) (g : Whole s) where
  pub good_digit : (i : ℕ) → 3 ≤ i → i < end_of s → hex_value (get_or s i 48) < 16
  good_digit i x y = stands_digit i (get_or s i 48) (end_of s) x y (g.shape.bytes i (omega (arith, g.whole)))

  good_start : s ≡ 48 ∷ 49 ∷ 48 ∷ drop 3 s
  unfolding stands
  good_start =
      let far : 36 < length s = omega (arith, end_far s, g.whole) in
      drop-cons s 0 48 (omega arith)
      ∙ ap₂ {C = List ℕ} (λ x z. x ∷ z) (eqb-true _ 48 (g.shape.bytes 0 (omega arith)))
      (drop-cons s 1 48 (omega arith)
      ∙ ap₂ {C = List ℕ} (λ x z. x ∷ z) (eqb-true _ 49 (g.shape.bytes 1 (omega arith)))
      (drop-cons s 2 48 (omega arith) ∙ ap (λ (x : ℕ). x ∷ drop 3 s) (eqb-true _ 48 (g.shape.bytes 2 (omega arith)))))

  good_last : (e : ℕ) → e ≡ end_of s → drop e s ≡ 10 ∷ []
  good_last e q =
      rw q
      (drop-cons s (end_of s) 48 (omega (arith, g.whole))
      ∙ ap₂ {C = List ℕ} (λ x z. x ∷ z)
      (stands_end (get_or s (end_of s) 48) (end_of s) (omega (arith, end_far s)) (g.shape.bytes (end_of s) (omega (arith, g.whole))))
      (drop_of_length-le s {i = suc (end_of s)} (omega (arith, g.whole))))

  good_is : s ≡ shown (frame_at s)
  unfolding shown
  good_is =
      let l : ℕ = label_length s in
      let n : ℕ = sealed_size (message_length s) in
      let w : length s ≡ end_of s + 1 = g.whole in
      let far : 36 ≤ end_of s = end_far s in
      let d : (a k : ℕ) → 3 ≤ a → a + k ≤ end_of s → (i : ℕ) → a ≤ i → i < a + k → hex_value (get_or s i 48) < 16 = λ a k x y i u v. good_digit i (omega arith) (omega arith) in
      rw length_bytes_at
      (good_start
      ∙ ap (λ (z : List ℕ). 48 ∷ 49 ∷ 48 ∷ z)
      (peel s 3 11 (omega arith) (d 3 11 (omega arith) (omega arith))
      ∙ ap (λ (z : List ℕ). hex_digits 11 (serial_of s) ++ z)
      (peel s 14 2 (omega arith) (d 14 2 (omega arith) (omega arith))
      ∙ ap (λ (z : List ℕ). hex_digits 2 l ++ z)
      (peel s 16 4 (omega arith) (d 16 4 (omega arith) (omega arith))
      ∙ ap (λ (z : List ℕ). hex_digits 4 (message_length s) ++ z)
      (peel_hex s 20 l (omega arith) (d 20 (2 * l) (omega arith) (omega arith))
      ∙ ap (λ (z : List ℕ). hex (bytes_at s 20 l) ++ z)
      (peel_hex s (20 + 2 * l) n (omega arith) (d (20 + 2 * l) (2 * n) (omega arith) (omega arith))
      ∙ ap (λ (z : List ℕ). hex (bytes_at s (20 + 2 * l) n) ++ z) (good_last (20 + 2 * l + 2 * n) (omega arith))))))))

  pub serial_below : serial_of s < 2 ^ 44
  serial_below = num_below s 3 11 (λ i x y. good_digit i (omega arith) (omega (arith, end_far s)))

  pub whole_good : GoodLine s
  whole_good = (
    frame_at s,
    record {
      limits =
          record {
            within = record { message = g.shape.message; label = rw length_bytes_at g.shape.label; serial = omega (arith, serial_below) };
            sealed = length_bytes_at s (20 + 2 * label_length s) (sealed_size (message_length s));
            label_bytes = bytes_at_lem s 20 (label_length s) (λ i x y. good_digit i (omega arith) (omega arith));
            sealed_are_bytes = bytes_at_lem s (20 + 2 * label_length s) (sealed_size (message_length s)) (λ i x y. good_digit i (omega arith) (omega arith));
          };
      line = good_is ∙ sym (line_shown (frame_at s) serial_below);
    },
  )

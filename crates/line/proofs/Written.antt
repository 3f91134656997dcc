-- The line of a frame has that shape and length, and its fields are those of the frame.
use Prim.Native.Nat.{ℕ, zero, suc, ◌+◌, ◌*◌, ◌/◌, ◌%◌, ◌^◌, ◌≤◌, ◌<◌}
use mathlib.Core.Path.{◌≡◌, refl, sym, ap, ◌∙◌, subst}
use mathlib.Core.List.{List, [], ◌∷◌, ◌++◌, append_assoc}
use mathlib.Core.Bool.{true}
use native.Mathlib.Nat.{le_of_suc-le-suc, not-suc-le-zero, mod-lt}
use native.Mathlib.Omega.{arith}
use lib.ListN.{length, get_or, length-append}
use lib.Seq.{get_or-append_seam}
use lib.Dec.{lit<}
use borrow.Author.Tests.{lt-ltb, le-ltb, eq-eqb, ne_eqb}
use Rattle.words.proofs.Cases.{by_lt, by_eq}
use Rattle.line.specs.Line.{hex_digit, hex_digits, hex, Frame, Limits, LineOf, GoodLine}
use Rattle.line.specs.Reader.{hex_value, number_at, serial_of, label_length, message_length, end_of, stands}
use Rattle.line.proofs.Shape.{Whole}
use Rattle.line.proofs.Hex.{value_digit, hex_none, hex_more, length_hex_digits, num_digits, length_hex, shown, line_shown}

data HexDigits : List ℕ → Type 0 where
  nothing : HexDigits []
  one : {b : ℕ} {l : List ℕ} → hex_value b < 16 → HexDigits l → HexDigits (b ∷ l)

digits_append : {l r : List ℕ} → HexDigits l → HexDigits r → HexDigits (l ++ r)
digits_append nothing q = q
digits_append (one h p) q = one h (digits_append p q)

digits_get : {l : List ℕ} (r : List ℕ) (i : ℕ) → HexDigits l → i < length l → hex_value (get_or (l ++ r) i 48) < 16
digits_get r i nothing h = absurd (not-suc-le-zero h)
digits_get r zero (one d p) h = d
digits_get r (suc i) (one d p) h = digits_get r i p (le_of_suc-le-suc h)

digits_digits : (k n : ℕ) → HexDigits (hex_digits k n)
digits_digits zero n = subst HexDigits (sym (hex_none n)) nothing
digits_digits (suc k) n =
    subst HexDigits (sym (hex_more k n))
    (digits_append (digits_digits k (n / 16)) (one {b = hex_digit (n % 16)} (rw (value_digit (n % 16) (mod-lt n (lit< tt))) (mod-lt n (lit< tt))) nothing))

digits_hex : (l : List ℕ) → HexDigits (hex l)
unfolding hex
digits_hex [] = nothing
digits_hex (b ∷ l) = digits_append (digits_digits 2 b) (digits_hex l)

stands_of : (i b e : ℕ) → 3 ≤ e → (i ≡ 0 → b ≡ 48) → (i ≡ 1 → b ≡ 49) → (i ≡ 2 → b ≡ 48) → (i < e → hex_value b < 16) → (i ≡ e → b ≡ 10) → i ≤ e
    → stands i b e ≡ true
unfolding stands
stands_of i b e l b0 b1 b2 d z h =
    by_eq i 0 (λ p. simp (eq-eqb i 0 p, eq-eqb b 48 (b0 p)))
    λ p. by_eq i 1 (λ q. simp (ne_eqb i 0 p, eq-eqb i 1 q, eq-eqb b 49 (b1 q)))
    λ q. by_eq i 2 (λ r. simp (ne_eqb i 0 p, ne_eqb i 1 q, eq-eqb i 2 r, eq-eqb b 48 (b2 r)))
    λ r. by_lt i e (λ t. simp (ne_eqb i 0 p, ne_eqb i 1 q, ne_eqb i 2 r, lt-ltb i e t, lt-ltb (hex_value b) 16 (d t)))
    λ t. let u : i ≡ e = omega arith in simp (ne_eqb i 0 p, ne_eqb i 1 q, ne_eqb i 2 r, le-ltb i e t, eq-eqb i e u, eq-eqb b 10 (z u))

module _ (f : Frame) where
  body : List ℕ
  body = 48 ∷ 49 ∷ 48 ∷ (hex_digits 11 f.serial ++ (hex_digits 2 (length f.label) ++ (hex_digits 4 f.message_length ++ (hex f.label ++ hex f.sealed))))

  body_line : shown f ≡ body ++ (10 ∷ [])
  unfolding shown body
  body_line = simp append_assoc

  body_length : length body ≡ 20 + 2 * (length f.label + length f.sealed)
  unfolding body
  body_length = simp (length-append, length_hex_digits, length_hex) (omega arith)

  body_digits : HexDigits body
  unfolding body hex_value
  body_digits =
      one (lit< tt) (one (lit< tt) (one (lit< tt)
      (digits_append (digits_digits 11 f.serial)
      (digits_append (digits_digits 2 (length f.label))
      (digits_append (digits_digits 4 f.message_length) (digits_append (digits_hex f.label) (digits_hex f.sealed)))))))

  written_serial : f.serial < 2 ^ 44 → serial_of (shown f) ≡ f.serial
  unfolding shown
  written_serial h = num_digits (48 ∷ 49 ∷ 48 ∷ []) _ 3 11 f.serial refl h

  written_label : length f.label ≤ 32 → label_length (shown f) ≡ length f.label
  unfolding shown
  written_label h =
      rw (← append_assoc (48 ∷ 49 ∷ 48 ∷ []) (hex_digits 11 f.serial) _)
      (num_digits ((48 ∷ 49 ∷ 48 ∷ []) ++ hex_digits 11 f.serial) _ 14 2 (length f.label) (rw length_hex_digits) (omega arith))

  written_message : f.message_length ≤ 1024 → message_length (shown f) ≡ f.message_length
  unfolding shown
  written_message h =
      let xs : List ℕ = (48 ∷ 49 ∷ 48 ∷ []) ++ (hex_digits 11 f.serial ++ hex_digits 2 (length f.label)) in
      let ys : List ℕ = hex f.label ++ (hex f.sealed ++ (10 ∷ [])) in
      let p : (48 ∷ 49 ∷ 48 ∷ []) ++ (hex_digits 11 f.serial ++ (hex_digits 2 (length f.label) ++ (hex_digits 4 f.message_length ++ ys))) ≡ xs ++ (hex_digits 4 f.message_length ++ ys) = simp append_assoc in
      ap (λ (z : List ℕ). number_at z 16 4) p ∙ num_digits xs ys 16 4 f.message_length (simp (length-append, length_hex_digits)) (omega arith)

  body_at : (i : ℕ) → i ≤ length body → stands i (get_or (body ++ (10 ∷ [])) i 48) (length body) ≡ true
  unfolding body
  body_at i h =
      stands_of i _ (length body) (omega (arith, body_length)) (λ e. rw e) (λ e. rw e) (λ e. rw e)
      (λ l. digits_get (10 ∷ []) i body_digits l)
      (λ e. rw e (get_or-append_seam body 10 [] 48))
      h

  written_end : Limits f → end_of (shown f) ≡ length body
  written_end l = rw (written_label l.within.label, written_message l.within.message, body_length) (omega (arith, l.sealed))

  written_whole : Limits f → Whole (shown f)
  written_whole l =
      let n : length (shown f) ≡ length body + 1 = ap length body_line ∙ length-append body (10 ∷ []) in
      record {
        shape =
            record {
              label = rw (written_label l.within.label) l.within.label;
              message = rw (written_message l.within.message) l.within.message;
              bytes = λ i h. rw (written_end l, body_line) (body_at i (omega arith));
            };
        whole = omega (arith, written_end l);
      }

pub good_whole : (s : List ℕ) → GoodLine s → Whole s
good_whole s (f, l) = rw (l.line ∙ line_shown f (omega (arith, l.limits.within.serial))) (written_whole f l.limits)

pub line_fields : (s : List ℕ) (f : Frame) → LineOf s f → (serial_of s ≡ f.serial) × (label_length s ≡ length f.label) × (message_length s ≡ f.message_length)
line_fields s f l =
    let w = l.limits.within in
    let below : f.serial < 2 ^ 44 = omega (arith, w.serial) in
    rw (l.line ∙ line_shown f below) (written_serial f below, written_label f w.label, written_message f w.message)

-- Laws of words and their digits, a turn of each loop, and the cases of `if_le`.
use mathlib.Core.Path.{◌≡◌, refl, sym, ap, ap₂, ◌∙◌}
use mathlib.Core.List.{List, [], ◌∷◌, ◌++◌, append_assoc, append-nil}
use Prim.Native.Nat.{ℕ, zero, suc, ◌+◌, ◌*◌, ◌/◌, ◌%◌, ◌^◌, ◌<◌, ◌≤◌, ◌-◌}
use native.Mathlib.Nat.{mul-zero, mul-suc, mul-one, mul_assoc, one-mul, add_comm, add-zero, zero-add, le_refl, le_trans, lt_of_lt_of_le, lt_of_le_of_lt, le-add_right, le-mul_of_pos_right, add-suc, div-one, mul-le-mul_right, mod-lt, mod-one, mod-eq_of_lt}
use native.Mathlib.Numerals.{add-one, sub-one}
use native.Mathlib.Omega.{arith}
use mir.Syntax.{w8}
use mir.Val.{Fits}
use borrow.Rule.Slice.PartMut.{put_mid}
use lib.Arith.{digits_lt}
use lib.Bits.{bit_and, and_mask}
use lib.Dec.{lit<}
use lib.ListN.{length, get_or, take, drop, set, length-append, length-take, length-drop}
use lib.Pow.{pow_pos, pow_mono, pow-add, mod-pow-add, shl_exact, shr-shr, high, low}
use lib.Seq.{drop-cons, lt-length-set, get_or-set_same, drop-set-lt, take_at, drop_at, drop-drop}
use Rattle.words.specs.Digits.{word_from, word, digits, Digits, none, more, laid}

-- ---- there and back

pub word_append : (m a : ℕ) (xs ys : List ℕ) → word_from m a (xs ++ ys) ≡ word_from m (word_from m a xs) ys
word_append m a [] ys = refl
word_append m a (x ∷ xs) ys = word_append m (a * 2 ^ m + x) xs ys

-- the digits of a number keep its low bits, and all of it where they suffice
pub word_low : (m n w : ℕ) → word m (digits m n w) ≡ w % 2 ^ (m * n)
word_low m zero w = sym (rw mul-zero (mod-one w))
word_low m (suc n) w = rw (word_append, word_low m n (w / 2 ^ m)) (sym (ap (λ (k : ℕ). w % 2 ^ k) (mul-suc m n) ∙ mod-pow-add w (m * n) m))

pub word_digits : (m n w : ℕ) → w < 2 ^ (m * n) → word m (digits m n w) ≡ w
word_digits m n w h = word_low m n w ∙ mod-eq_of_lt h

digits_from : {m : ℕ} {ds : List ℕ} (j a : ℕ) → Digits m ds → digits m (j + length ds) (word_from m a ds) ≡ digits m j a ++ ds
digits_from j a none = rw (add-zero, append-nil)
digits_from {m} j a (more {d = d} {ds = ds} hd h) =
    let e : j + suc (length ds) ≡ suc j + length ds = omega arith in
    rw (e, digits_from (suc j) (a * 2 ^ m + d) h, high a m hd, low a m hd, append_assoc)

pub digits_word : {m : ℕ} {ds : List ℕ} → Digits m ds → digits m (length ds) (word m ds) ≡ ds
digits_word h = rw zero-add at (digits_from 0 0 h)

-- ---- digits

pub length_digits : (m n w : ℕ) → length (digits m n w) ≡ n
length_digits m zero w = refl
length_digits m (suc n) w = rw (length-append, length_digits m n (w / 2 ^ m), add-one)

pub digits_append : {m : ℕ} {xs ys : List ℕ} → Digits m xs → Digits m ys → Digits m (xs ++ ys)
digits_append none k = k
digits_append (more hd h) k = more hd (digits_append h k)

pub digits_below : (m n w : ℕ) → Digits m (digits m n w)
digits_below m zero w = none
digits_below m (suc n) w = digits_append (digits_below m n (w / 2 ^ m)) (more (mod-lt w (pow_pos m)) none)

-- n digits know the n low digits of a number only
pub digits_low : (m n w : ℕ) → digits m n (w % 2 ^ (m * n)) ≡ digits m n w
digits_low m n w =
    ap (digits m n) (sym (word_low m n w))
    ∙ ap (λ (k : ℕ). digits m k (word m (digits m n w))) (sym (length_digits m n w))
    ∙ digits_word (digits_below m n w)

-- what owning a slice of bytes tells
pub bytes : (s : List ℕ) → ((i : ℕ) → Fits w8 (get_or s i 0)) → Digits 8 s
bytes [] h = none
bytes (x ∷ xs) h = more (h 0).fits (bytes xs (λ i. h (suc i)))

-- the high digits, then the low ones
pub digits_add : (m j k w : ℕ) → digits m (j + k) w ≡ digits m j (w / 2 ^ (m * k)) ++ digits m k w
digits_add m j zero w = rw (add-zero, mul-zero, append-nil, div-one)
digits_add m j (suc k) w = rw (add-suc, digits_add m j k (w / 2 ^ m), shr-shr, append_assoc, mul-suc, add_comm m (m * k))

-- ---- size

word_under : {m : ℕ} {ds : List ℕ} (a : ℕ) → Digits m ds → word_from m a ds < suc a * 2 ^ (m * length ds)
word_under a none = rw (mul-zero, mul-one) (le_refl (suc a))
word_under {m} a (more {d = d} {ds = ds} hd h) =
    rw (mul-suc, add_comm (m * length ds) m, pow-add, ← mul_assoc)
    (lt_of_lt_of_le (word_under (a * 2 ^ m + d) h) (mul-le-mul_right (2 ^ (m * length ds)) (digits_lt (le_refl (suc a)) hd)))

pub word_lt : {m : ℕ} {ds : List ℕ} → Digits m ds → word m ds < 2 ^ (m * length ds)
word_lt h = rw one-mul at (word_under 0 h)

pub word_fits : {m : ℕ} {ds : List ℕ} → Digits m ds → m * length ds ≤ 64 → word m ds < 2 ^ 64
word_fits h k = lt_of_lt_of_le (word_lt h) (pow_mono k)

pub digits_take : {m : ℕ} {ds : List ℕ} (k : ℕ) → Digits m ds → Digits m (take k ds)
digits_take zero h = none
digits_take (suc k) none = none
digits_take (suc k) (more hd h) = more hd (digits_take k h)

pub digits_drop : {m : ℕ} {ds : List ℕ} (k : ℕ) → Digits m ds → Digits m (drop k ds)
digits_drop zero h = h
digits_drop (suc k) none = none
digits_drop (suc k) (more hd h) = digits_drop k h

-- 8 bytes from the middle of a list of bytes
pub part_fits : {s : List ℕ} (a : ℕ) → Digits 8 s → word 8 (take (a + 8 - a) (drop a s)) < 2 ^ 64
part_fits {s} a h = word_fits (digits_take (a + 8 - a) (digits_drop a h)) (simp length-take (omega arith))

-- a word is at least what its first digits make
pub grows : (m a : ℕ) (ds : List ℕ) → a ≤ word_from m a ds
grows m a [] = le_refl a
grows m a (d ∷ ds) = le_trans (le_trans (le-mul_of_pos_right a (pow_pos m)) (le-add_right (a * 2 ^ m) d)) (grows m (a * 2 ^ m + d) ds)

-- ---- a turn of each loop, as the machine computes it

-- `read`: x, then the digit at i, in 64 bits
pub read_turn : (m x i : ℕ) (s : List ℕ) → i < length s → word_from m x (drop i s) ≡ word m s → word m s < 2 ^ 64
    → (x * 2 ^ m % 2 ^ 64 + get_or s i 0 < 2 ^ 64) × (word_from m (x * 2 ^ m % 2 ^ 64 + get_or s i 0) (drop (i + 1) s) ≡ word m s)
read_turn m x i s h e f =
    let next : word_from m (x * 2 ^ m + get_or s i 0) (drop (i + 1) s) ≡ word m s = rw add-one (rw (drop-cons s i 0) at e) in
    let under : x * 2 ^ m + get_or s i 0 < 2 ^ 64 = lt_of_le_of_lt (grows m (x * 2 ^ m + get_or s i 0) (drop (i + 1) s)) (rw next f) in
    rw (mod-eq_of_lt (lt_of_le_of_lt (le-add_right (x * 2 ^ m) (get_or s i 0)) under)) (under, next)

pub power : (m w : ℕ) → m < w → 1 * 2 ^ m % 2 ^ w ≡ 2 ^ m
power m w h = shl_exact 1 m w (lit< tt) (omega arith) ∙ one-mul (2 ^ m)

pub mask : (m x : ℕ) → m ≤ 8 → bit_and x (1 * 2 ^ m % 2 ^ 64 - 1) ≡ x % 2 ^ m
mask m x h = rw (power m 64 (omega arith)) (and_mask x m)

-- `write`: the last digit of x goes to i - 1
pub write_turn : (m i x : ℕ) (out : List ℕ) → 0 < i → i ≤ length out
    → digits m (i - 1) (x / 2 ^ m) ++ drop (i - 1) (set out (i - 1) (x % 2 ^ m)) ≡ digits m i x ++ drop i out
write_turn m zero x out h k = absurd (omega arith)
write_turn m (suc i) x out h k =
    rw (sub-one, append_assoc, drop-cons (set out i (x % 2 ^ m)) i 0 (lt-length-set out i _ k), get_or-set_same out i _ 0 k, drop-set-lt (suc i) out i _ (le_refl (suc i)))

-- ---- words in their places: after i words of f, the rest of the slice is as it was

pub length_laid : (n : ℕ) (f : ℕ → ℕ) → length (laid n f) ≡ n * 8
length_laid zero f = refl
length_laid (suc n) f = rw (length-append, length_laid n f, length_digits) (omega arith)

pub laid_same : (n : ℕ) {f g : ℕ → ℕ} → ((i : ℕ) → i < n → f i ≡ g i) → laid n f ≡ laid n g
laid_same zero h = refl
laid_same (suc n) h = ap₂ ◌++◌ (laid_same n (λ i l. h i (omega arith))) (ap (digits 8 8) (h n (omega arith)))

pub laid_below : (n : ℕ) (f : ℕ → ℕ) → Digits 8 (laid n f)
laid_below zero f = none
laid_below (suc n) f = digits_append (laid_below n f) (digits_below 8 8 (f n))

-- a part in the middle is replaced: b stands before it, and d is what was there
pub mid_turn : (b d ys : List ℕ) (a k e : ℕ) → length b ≡ a → a + k ≡ e → put_mid a k (b ++ drop a d) ys ≡ (b ++ ys) ++ drop e d
mid_turn b d ys a k e h p = rw (take_at b (drop a d) a, drop_at b (drop a d) a, drop-drop, p, append_assoc)

-- k bytes from the middle of a list
pub middle : (a k e : ℕ) (l : List ℕ) → a + k ≡ e → e ≤ length l → length (take (e - a) (drop a l)) ≡ k
middle a k e l h f = simp (length-take, length-drop) (omega arith)

-- The loops that write each of n words into its own place: i are written, and the rest is as it was, d.
pub record Laid (n : ℕ) (f : ℕ → ℕ) (d out : List ℕ) (i : ℕ) : Type 0 where
  pub within : i ≤ n
  pub size : length out ≡ length d
  pub made : out ≡ laid i f ++ drop (i * 8) d

pub laid_none : (n : ℕ) (f : ℕ → ℕ) (d : List ℕ) → Laid n f d d 0
laid_none n f d = record { within = omega arith; size = refl; made = refl }

-- word i goes to its place
pub laid_more : (n : ℕ) (f : ℕ → ℕ) (d out ys : List ℕ) (i w : ℕ) → n * 8 ≤ length d → Laid n f d out i → i < n
    → ys ≡ digits 8 (length (take (i * 8 + 8 - i * 8) (drop (i * 8) out))) w → w ≡ f i → Laid n f d (put_mid (i * 8) (i * 8 + 8 - i * 8) out ys) (i + 1)
laid_more n f d out ys i w room h l y e =
    let eight = middle (i * 8) 8 (i * 8 + 8) out refl (omega arith) in
    let put : put_mid (i * 8) (i * 8 + 8 - i * 8) out ys ≡ laid (i + 1) f ++ drop ((i + 1) * 8) d =
    rw (add-one, h.made, y, eight, e) (mid_turn (laid i f) d _ (i * 8) (i * 8 + 8 - i * 8) (suc i * 8) (length_laid i f) (omega arith)) in
    record {
      within = omega arith;
      size = ap length put ∙ simp (length-append, length_laid, length-drop) (omega arith);
      made = put;
    }

pub laid_all : (n : ℕ) (f : ℕ → ℕ) (d out : List ℕ) (i : ℕ) → Laid n f d out i → n ≤ i → out ≡ laid n f ++ drop (n * 8) d
laid_all n f d out i h l = let e : i ≡ n = omega arith in rw e at h.made

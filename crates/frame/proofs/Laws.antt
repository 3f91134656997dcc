-- Laws of blocks and their fill.
use mathlib.Core.Bool.{true}
use mathlib.Core.Path.{◌≡◌, refl, sym, ap, ◌∙◌}
use mathlib.Core.List.{List, [], ◌∷◌, ◌++◌, append-nil}
use Prim.Native.Nat.{ℕ, zero, suc, ◌+◌, ◌-◌, ◌*◌, ◌/◌, ◌%◌, ◌^◌, ◌<◌, ◌≤◌}
use native.Mathlib.Nat.{mul-zero, mul-suc, mul-one, mul_assoc, add_comm, add-zero, mod-eq_of_lt, lt_of_le_of_lt, le-add_right}
use native.Mathlib.Omega.{arith}
use borrow.Rule.Slice.PartMut.{put_mid}
use lib.Dec.{eqb, lit<}
use native.Mathlib.Numerals.{add-one}
use lib.ListN.{length, get_or, take, drop, set, replicate, length-append, length-replicate, length-take, length-drop}
use lib.Pow.{pow_pos, pow-add}
use lib.Seq.{take-suc-set, take_all, take_at, take-append-add, length-take-le, get_or-take}
use Rattle.words.specs.Lists.{upto, sum}
use Rattle.cells.proofs.Upto.{upto_at, upto_length}
use Rattle.cells.proofs.Xor.{sum_same}
use Rattle.words.specs.Cases.{if_le}
use Rattle.words.specs.Digits.{word_from, word, digits, Digits, none, more, laid}
use Rattle.words.proofs.Laws.{word_append, word_fits, digits_append, grows, mid_turn, digits_add, length_digits, length_laid, laid_same}
use Rattle.words.proofs.Cases.{le_case, gt_case, le_either, by_lt}
use Rattle.frame.specs.Blocks.{blocks, part, fill_of, filled, filling, purpose, opened_purpose}
use Rattle.frame.specs.Frames.{fill_right}

below_zeros : (m k : ℕ) → Digits m (replicate k 0)
below_zeros m zero = none
below_zeros m (suc k) = more (pow_pos m) (below_zeros m k)

pub word_zeros : (m a k : ℕ) → word_from m a (replicate k 0) ≡ a * 2 ^ (m * k)
word_zeros m a zero = sym (rw (mul-zero, mul-one))
word_zeros m a (suc k) = word_zeros m (a * 2 ^ m + 0) k ∙ rw (add-zero, mul_assoc, ← pow-add, mul-suc, add_comm m (m * k))

-- what filling adds to n bytes: nothing to 8, to fewer byte 80 and then bytes 00
whole_fill : (n : ℕ) → 8 ≤ n → [] ≡ fill_of n
whole_fill n h = le_case 8 n _ _ h

pub short_fill : (n : ℕ) → n < 8 → 0x80 ∷ replicate (7 - n) 0 ≡ fill_of n
short_fill n h = gt_case 8 n _ _ h

-- a part of 8 bytes is itself, a shorter one is filled
pub whole_filled : (s : List ℕ) → 8 ≤ length s → s ≡ filled s
unfolding filled
whole_filled s h = sym (append-nil s) ∙ ap (λ (l : List ℕ). s ++ l) (whole_fill (length s) h)

pub short_filled : (s : List ℕ) → length s < 8 → s ++ 0x80 ∷ replicate (7 - length s) 0 ≡ filled s
unfolding filled
short_filled s h = ap (λ (l : List ℕ). s ++ l) (short_fill (length s) h)

-- how many bytes filling adds to n bytes
fill_size : (n : ℕ) → n ≤ 8 → length (fill_of n) ≡ 8 - n
fill_size n h =
    by_lt n 8 (λ l. ap length (sym (short_fill n l)) ∙ simp length-replicate (omega arith))
    (λ l. ap length (sym (whole_fill n l)) ∙ omega arith)

-- a part filled is eight bytes
pub filled_bytes : {s : List ℕ} → Digits 8 s → Digits 8 (filled s)
unfolding filled
filled_bytes {s} h = digits_append h (le_either (Digits 8) 8 (length s) none (more (lit< tt) (below_zeros 8 (7 - length s))))

pub filled_eight : (s : List ℕ) → length s ≤ 8 → length (filled s) ≡ 8
unfolding filled
filled_eight s h = length-append s (fill_of (length s)) ∙ omega (arith, fill_size (length s) h)

pub filled_fits : {s : List ℕ} → Digits 8 s → length s ≤ 8 → word 8 (filled s) < 2 ^ 64
filled_fits {s} h l = word_fits (filled_bytes h) (omega (arith, filled_eight s l))

-- the fill, as the machine computes it
pub fill_word : {s : List ℕ} → Digits 8 s → length s < 8
    → (word 8 s * 256 % 2 ^ 64 + 128) * 2 ^ (8 * (8 - length s - 1)) % 2 ^ 64 ≡ word 8 (filled s)
fill_word {s} h k =
    let zs : List ℕ = replicate (7 - length s) 0 in
    let x = word 8 s * 256 + 128 in
    let whole : word_from 8 x zs ≡ word 8 (filled s) = sym (word_append 8 0 s (128 ∷ zs)) ∙ ap (word 8) (short_filled s k) in
    let fits : word 8 (filled s) < 2 ^ 64 = filled_fits h (omega arith) in
    let under : x < 2 ^ 64 = lt_of_le_of_lt (grows 8 x zs) (rw whole fits) in
    let left : 8 - length s - 1 ≡ 7 - length s = omega arith in
    rw (left, mod-eq_of_lt (lt_of_le_of_lt (le-add_right (word 8 s * 256) 128) under), ← word_zeros 8 x (7 - length s), whole) (mod-eq_of_lt fits)

-- what filling answers
pub fills : (s : List ℕ) (w k : ℕ) → length s ≤ 8 → w ≡ word 8 (filled s) → k ≡ 8 - length s → record { word = w; added = k } ≡ filling s
fills s w k h e d = λ i. record { word = e i; added = (d ∙ sym (fill_size (length s) h)) i }

-- the purpose of block i of some bytes, by how many there are
by_length : (whole : ℕ) (s : List ℕ) (i : ℕ) → purpose whole (filling (part s i)).added ≡ if_le (i * 8 + 8) (length s) whole (whole + 1)
unfolding purpose
by_length whole s i =
    let size : length (part s i) ≤ 8 = simp length-take (omega arith) in
    let count = fill_size (length (part s i)) size in
    by_lt (length s) (i * 8 + 8)
    (λ l.
    let short : length (part s i) < 8 = simp (length-take, length-drop) (omega arith) in
    sym (gt_case (filling (part s i)).added 0 whole (whole + 1) (omega arith)) ∙ gt_case (i * 8 + 8) (length s) whole (whole + 1) l)
    (λ l.
    let eight : 8 ≤ length (part s i) = simp (length-take, length-drop) (omega arith) in
    sym (le_case (filling (part s i)).added 0 whole (whole + 1) (omega arith)) ∙ le_case (i * 8 + 8) (length s) whole (whole + 1) l)

-- so a message block has one purpose, from what filling adds to its part and from the message's length
pub same_purpose : (m : List ℕ) (i : ℕ) → purpose 0 (filling (part m i)).added ≡ opened_purpose (length m) i
unfolding opened_purpose
same_purpose m i = by_length 0 m i

-- eight bytes go behind n blocks
pub put_behind : (n : ℕ) (b t d out ys : List ℕ) → length b ≡ n * 8 → out ≡ b ++ drop (n * 8) d → ys ≡ t
    → put_mid (n * 8) (n * 8 + 8 - n * 8) out ys ≡ (b ++ t) ++ drop (n * 8 + 8) d
put_behind n b t d out ys h o y = rw (o, y) (mid_turn b d t (n * 8) (n * 8 + 8 - n * 8) (n * 8 + 8) h (omega arith))

-- ---- words in a list

pub upto_more : (n : ℕ) (f : ℕ → ℕ) → upto (suc n) f ≡ upto n f ++ (f n ∷ [])
unfolding upto
upto_more zero f = refl
upto_more (suc n) f = ap (λ (l : List ℕ). f 0 ∷ l) (upto_more n (λ i. f (suc i)))

pub upto_turn : (f : ℕ → ℕ) (l : List ℕ) (i v : ℕ) → i < length l → take i l ≡ upto i f → v ≡ f i → take (i + 1) (set l i v) ≡ upto (i + 1) f
upto_turn f l i v h e g = rw (add-one, take-suc-set, upto_more, e, g)

-- ---- the first n bytes of some words

-- n bytes of whole blocks
pub take_whole : (n q : ℕ) (f : ℕ → ℕ) → n ≡ q * 8 → laid q f ≡ take n (laid (blocks n) f)
take_whole n q f e =
    let b : blocks n ≡ q = omega arith in
    rw b (sym (take_all n (laid q f) (rw length_laid (omega arith))))

-- the high j digits of a word
top : (m j k w : ℕ) → take j (digits m (j + k) w) ≡ digits m j (w / 2 ^ (m * k))
top m j k w = rw digits_add (take_at (digits m j (w / 2 ^ (m * k))) (digits m k w) j (length_digits m j (w / 2 ^ (m * k))))

pub first_bytes : (r w : ℕ) → r ≤ 8 → digits 8 r (w / 2 ^ (64 - r * 8)) ≡ take r (digits 8 8 w)
first_bytes r w h =
    let e : r + (8 - r) ≡ 8 = omega arith in
    let k : 8 * (8 - r) ≡ 64 - r * 8 = omega arith in
    ap (λ (x : ℕ). digits 8 r (w / 2 ^ x)) (sym k) ∙ sym (top 8 r (8 - r) w) ∙ ap (λ (x : ℕ). take r (digits 8 x w)) e

-- whole blocks, and a last one of which r bytes count
pub take_filled : (n q r : ℕ) (f : ℕ → ℕ) → n ≡ q * 8 + r → 1 ≤ r → r ≤ 7
    → laid q f ++ digits 8 r (f q / 2 ^ (64 - r * 8)) ≡ take n (laid (blocks n) f)
take_filled n q r f e lo hi =
    let b : blocks n ≡ suc q = omega arith in
    let l : length (laid q f) + r ≡ n = rw length_laid (sym e) in
    ap (λ (x : List ℕ). laid q f ++ x) (first_bytes r (f q) (omega arith))
    ∙ sym (take-append-add (laid q f) (digits 8 8 (f q)) r)
    ∙ ap (λ (x : ℕ). take x (laid (suc q) f)) l
    ∙ ap (λ (x : ℕ). take n (laid x f)) (sym b)

-- the first q words are put
pub put_words : (q : ℕ) (l d o : List ℕ) → q ≤ length l
    → o ≡ laid (length (take q l)) (λ i. get_or (take q l) i 0) ++ drop (length (take q l) * 8) d
    → o ≡ laid q (λ i. get_or l i 0) ++ drop (q * 8) d
put_words q l d o h e =
    e
    ∙ ap (λ (x : ℕ). laid x (λ i. get_or (take q l) i 0) ++ drop (x * 8) d) (length-take-le q l h)
    ∙ ap (λ (b : List ℕ). b ++ drop (q * 8) d) (laid_same q (λ i u. get_or-take q l i 0 u))

-- then nothing, where no byte is left
pub put_none : (n : ℕ) (f : ℕ → ℕ) (d o : List ℕ) → o ≡ laid (n / 8) f ++ drop (n / 8 * 8) d → n / 8 * 8 ≡ n
    → o ≡ take n (laid (blocks n) f) ++ drop n d
put_none n f d o e z =
    e ∙ ap (λ (x : ℕ). laid (n / 8) f ++ drop x d) z ∙ ap (λ (b : List ℕ). b ++ drop n d) (take_whole n (n / 8) f (sym z))

-- then the bytes of the last word that are left
pub put_last : (n : ℕ) (f : ℕ → ℕ) (d o ys : List ℕ) → o ≡ laid (n / 8) f ++ drop (n / 8 * 8) d → 1 ≤ n - n / 8 * 8
    → ys ≡ digits 8 (n - n / 8 * 8) (f (n / 8) / 2 ^ (64 - (n - n / 8 * 8) * 8))
    → put_mid (n / 8 * 8) (n - n / 8 * 8) o ys ≡ take n (laid (blocks n) f) ++ drop n d
put_last n f d o ys e h y =
    rw e (mid_turn (laid (n / 8) f) d ys (n / 8 * 8) (n - n / 8 * 8) n (length_laid (n / 8) f) (omega arith))
    ∙ ap (λ (b : List ℕ). (laid (n / 8) f ++ b) ++ drop n d) y
    ∙ ap (λ (b : List ℕ). b ++ drop n d) (take_filled n (n / 8) (n - n / 8 * 8) f (omega arith) h (omega arith))

-- ---- words that are f 0, f 1, ..

pub word_at : (b : ℕ) (f : ℕ → ℕ) (l : List ℕ) → take b l ≡ upto b f → (i : ℕ) → i < b → get_or l i 0 ≡ f i
word_at b f l e i h = sym (get_or-take b l i 0 h) ∙ ap (λ (x : List ℕ). get_or x i 0) e ∙ upto_at b f i h

pub words_sum : (b : ℕ) (f : ℕ → ℕ) (l : List ℕ) → take b l ≡ upto b f → sum (length (take b l)) (λ i. get_or (take b l) i 0) ≡ sum b f
words_sum b f l e =
    ap (λ (x : List ℕ). sum (length x) (λ i. get_or x i 0)) e
    ∙ ap (λ (k : ℕ). sum k (λ i. get_or (upto b f) i 0)) (upto_length b f)
    ∙ sum_same b (λ i h. upto_at b f i h)

-- the fill is asked of the last block only where there is one to fill
only_filled : {A : Type 0} (r u w : ℕ) (a : A) (g : ℕ → A) → (1 ≤ r → u ≡ w) → if_le r 0 a (g u) ≡ if_le r 0 a (g w)
only_filled zero u w a g h = sym (le_case 0 0 a (g u) (omega arith)) ∙ le_case 0 0 a (g w) (omega arith)
only_filled (suc r) u w a g h = ap (λ (x : ℕ). if_le (suc r) 0 a (g x)) (h (omega arith))

pub fill_same : (n : ℕ) (f : ℕ → ℕ) (l : List ℕ) → take (blocks n) l ≡ upto (blocks n) f → fill_right n (get_or l (n / 8) 0) ≡ fill_right n (f (n / 8))
unfolding fill_right
fill_same n f l e =
    only_filled (n % 8) (get_or l (n / 8) 0) (f (n / 8)) true (λ w. eqb (word 8 (drop (n % 8) (digits 8 8 w))) (word 8 (fill_of (n % 8)))) (λ h. word_at (blocks n) f l e (n / 8) (omega arith))

-- Two lines: where they differ, in how many bits, and what the report says of them.
use Prim.Native.Nat.{ℕ, suc, ◌+◌, ◌*◌, ◌≤◌, ◌<◌}
use mathlib.Core.Bool.{Bool, cond}
use mathlib.Core.Path.{◌≡◌, refl, sym, ap, ap₂, subst, ◌∙◌}
use mathlib.Core.List.{List, [], ◌∷◌, ◌++◌, append_assoc}
use native.Mathlib.Nat.{add-zero}
use native.Mathlib.Numerals.{add-one}
use native.Mathlib.Omega.{arith}
use borrow.Author.Tests.{eq-eqb, ne_eqb}
use mir.Syntax.{w8}
use mir.Val.{Fits}
use lib.Bits.{xor_lt}
use lib.Count.{ones, ones-le}
use lib.Dec.{eqb}
use lib.ListN.{length, get_or, drop, drop_of_length-le}
use lib.Seq.{drop-cons, paste-zero}
use Rattle.std.specs.List.{zip, AllWithin, HoldsAt}
use Rattle.std.specs.Option.{MatchOption, unwrap_or}
use Rattle.std.specs.Prelude.{Option, None, Some}
use Rattle.std.proofs.lemmas.Iterator.{index_from_first}
use Rattle.std.proofs.lemmas.Slice.Zip.{length-zip}
use Rattle.words.specs.Digits.{◌⊕◌}
use Rattle.texts.specs.Texts.{decimal, Appended}
use Rattle.changes.specs.Report.{differ_at, bits_of, both_text, serial_digits, saying, numbers, pair}

-- ---- the first differing byte

-- the pairs of two lines' bytes
unfoldable differ_pairs : List (ℕ × ℕ) → ℕ
differ_pairs [] = 0
differ_pairs (p ∷ ps) = cond (eqb p.0 p.1) (suc (differ_pairs ps)) 0

differ_zip : (a b : List ℕ) → differ_pairs (zip a b) ≡ differ_at a b
unfolding differ_pairs differ_at
differ_zip [] [] = refl
differ_zip [] (y ∷ b) = refl
differ_zip (x ∷ a) [] = refl
differ_zip (x ∷ a) (y ∷ b) = ap (λ (n : ℕ). cond (eqb x y) (suc n) 0) (differ_zip a b)

-- the first pair that differs, or none
pub differ_first : (a b : List ℕ) (r : Option ℕ) → length a ≡ length b
    → MatchOption r (AllWithin (λ p. p.0 ≡ p.1) (zip a b) 0 (length (zip a b))) (λ i. (i < length (zip a b)) × HoldsAt (λ p. p.0 ≡ p.1 → ⊥) (zip a b) i × AllWithin (λ p. p.0 ≡ p.1) (zip a b) 0 i)
    → (unwrap_or r (length a) ≡ differ_at a b) × (unwrap_or r (length a) ≤ length a)
unfolding differ_pairs
differ_first a b r e h =
    let n : length (zip a b) ≡ length a = omega (arith, length-zip a b) in
    let q : unwrap_or r (length a) ≡ differ_at a b =
    ap (unwrap_or r) (sym n)
    ∙ sym (index_from_first differ_pairs (λ p. p.0 ≡ p.1 → ⊥) (λ p. p.0 ≡ p.1) refl
    (λ p ps k. ap (λ (t : Bool). cond t (suc (differ_pairs ps)) 0) (ne_eqb p.0 p.1 k))
    (λ p ps k. ap (λ (t : Bool). cond t (suc (differ_pairs ps)) 0) (eq-eqb p.0 p.1 k) ∙ sym (add-one (differ_pairs ps))) (zip a b) r h)
    ∙ differ_zip a b in
    (q, within r n h)
  where
    within : (r : Option ℕ) → length (zip a b) ≡ length a
        → MatchOption r (AllWithin (λ p. p.0 ≡ p.1) (zip a b) 0 (length (zip a b))) (λ i. (i < length (zip a b)) × HoldsAt (λ p. p.0 ≡ p.1 → ⊥) (zip a b) i × AllWithin (λ p. p.0 ≡ p.1) (zip a b) 0 i)
        → unwrap_or r (length a) ≤ length a
    within None n h = omega arith
    within (Some i) n h = omega (arith, h.0)

-- ---- differing bits

pub ones_few : (x y : ℕ) → Fits w8 x → Fits w8 y → ones (x ⊕ y) ≤ 8
ones_few x y h k = ones-le 8 (x ⊕ y) (xor_lt 8 x y h.fits k.fits)

-- n bits differ in the first i bytes
pub record Bits (a b : List ℕ) (i n : ℕ) : Type 0 where
  pub within : i ≤ length a
  pub size : length a ≡ length b
  pub few : n ≤ 8 * i
  pub whole : n + bits_of (drop i a) (drop i b) ≡ bits_of a b

module _ (a b : List ℕ) (i n : ℕ) (k : Bits a b i n) where
  pub bits_more : i < length a → ones (get_or a i 0 ⊕ get_or b i 0) ≤ 8 → Bits a b (i + 1) (n + ones (get_or a i 0 ⊕ get_or b i 0))
  unfolding bits_of
  bits_more h e =
      let z : bits_of (drop i a) (drop i b) ≡ ones (get_or a i 0 ⊕ get_or b i 0) + bits_of (drop (suc i) a) (drop (suc i) b) = ap₂ bits_of (drop-cons a i 0 h) (drop-cons b i 0 (omega (arith, k.size))) in
      record {
        within = omega arith;
        size = k.size;
        few = omega (arith, k.few);
        whole = ap (λ (j : ℕ). n + ones (get_or a i 0 ⊕ get_or b i 0) + bits_of (drop j a) (drop j b)) (add-one i) ∙ omega (arith, z, k.whole);
      }

  -- the next pair is x and y
  pub bits_next : (x y j : ℕ) → i < length a → x ≡ get_or a i 0 → y ≡ get_or b i 0 → Fits w8 x → Fits w8 y → j ≡ i + 1 → Bits a b j (n + ones (x ⊕ y))
  bits_next x y j h e f u v q =
      let few : ones (get_or a i 0 ⊕ get_or b i 0) ≤ 8 = subst (λ (k : ℕ). k ≤ 8) (ap₂ (λ (k l : ℕ). ones (k ⊕ l)) e f) (ones_few x y u v) in
      subst (λ (k : ℕ). Bits a b k (n + ones (x ⊕ y))) (sym q)
      (subst (λ (k : ℕ). Bits a b (i + 1) (n + k)) (sym (ap₂ (λ (k l : ℕ). ones (k ⊕ l)) e f)) (bits_more h few))

  pub bits_all : length a ≤ i → n ≡ bits_of a b
  unfolding bits_of
  bits_all h =
      let z : bits_of (drop i a) (drop i b) ≡ 0 = ap₂ bits_of (drop_of_length-le a {i = i} h) (drop_of_length-le b {i = i} (omega (arith, k.size))) in
      omega (arith, z, k.whole)

-- ---- what is said

pub said_one : (w l : List ℕ) → (w ++ serial_digits l) ++ (10 ∷ []) ≡ saying w l []
unfolding saying
said_one w l = append_assoc w (serial_digits l) (10 ∷ [])

pub said_both : (w l n : List ℕ) → ((w ++ serial_digits l) ++ n) ++ (10 ∷ []) ≡ saying w l n
unfolding saying
said_both w l n = simp append_assoc

pub said_numbers : (p b : List ℕ) → (((32 ∷ []) ++ p) ++ (32 ∷ [])) ++ b ≡ 32 ∷ (p ++ (32 ∷ b))
said_numbers p b = simp append_assoc

pub other_text : {d t u out : List ℕ} {n m : ℕ} → t ≡ u → Appended d n t out m → Appended d n u out m
other_text {d} {t} {u} {out} {n} {m} e a = subst (λ (x : List ℕ). Appended d n x out m) e a

module _ (x y : List ℕ) where
  pub pair_other : (length x ≡ length y → ⊥) → saying both_text x [] ≡ pair x y
  unfolding pair numbers
  pair_other h = simp (ne_eqb (length x) (length y) h)

  pub pair_same : length x ≡ length y → differ_at x y ≡ length x → [] ≡ pair x y
  unfolding pair
  pair_same h k = simp (eq-eqb (length x) (length y) h, eq-eqb (differ_at x y) (length x) k)

  pub pair_differs : length x ≡ length y → (differ_at x y ≡ length x → ⊥) → saying both_text x (32 ∷ (decimal (differ_at x y) ++ (32 ∷ decimal (bits_of x y)))) ≡ pair x y
  unfolding pair numbers
  pair_differs h k = simp (eq-eqb (length x) (length y) h, ne_eqb (differ_at x y) (length x) k)

pub pair_said : (x y : List ℕ) (k b : ℕ) → length x ≡ length y → k ≡ differ_at x y → b ≡ bits_of x y → (k ≡ length x → ⊥)
    → saying both_text x (32 ∷ (decimal k ++ (32 ∷ decimal b))) ≡ pair x y
pair_said x y k b h e f n =
    ap₂ (λ (i j : ℕ). saying both_text x (32 ∷ (decimal i ++ (32 ∷ decimal j)))) e f
    ∙ pair_differs x y h (λ z. n (e ∙ z))

-- nothing is said
pub nothing_said : (d : List ℕ) (n : ℕ) {t : List ℕ} → [] ≡ t → Appended d n t d n
nothing_said d n e = other_text e (record { end = sym (add-zero n); text = paste-zero d n [] })

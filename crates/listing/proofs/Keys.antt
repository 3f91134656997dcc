-- The key line: the computed test, and the two numbers.
use Prim.Native.Nat.{ℕ, zero, suc, ◌+◌, ◌^◌, ◌≤◌, ◌<◌}
use mathlib.Core.Bool.{Bool, true, false, ◌&&◌}
use mathlib.Core.Path.{◌≡◌, refl, sym, subst, ◌∙◌}
use mathlib.Core.List.{List}
use mathlib.Core.Logic.{inl, inr}
use native.Mathlib.Nat.{eq-or-lt_of_le}
use native.Mathlib.Numerals.{add-one}
use native.Mathlib.Omega.{arith}
use borrow.Author.Tests.{lt-ltb, eq-eqb, ne_eqb, ltb-true}
use lib.Dec.{eqb}
use lib.ListN.{length, get_or}
use Rattle.words.proofs.Cases.{both}
use Rattle.line.specs.Reader.{hex_value, number_at}
use Rattle.line.proofs.Shape.{inside}
use Rattle.line.proofs.Good.{num_below}
use Rattle.listing.specs.Listing.{are_digits, is_key, w0_of, k0_of}
use Rattle.listing.specs.Chunks.{key_of}
use Rattle.listing.specs.declared.KeyLine.TheVariants.{Known, Bad}

-- ---- digits, one by one

pub digits_next : (l : List ℕ) (i : ℕ) → are_digits l i ≡ true → hex_value (get_or l i 48) < 16 → are_digits l (i + 1) ≡ true
digits_next l i h d = rw add-one (simp (h, lt-ltb (hex_value (get_or l i 48)) 16 d))

pub digit_in : (l : List ℕ) (n i : ℕ) → are_digits l n ≡ true → i < n → hex_value (get_or l i 48) < 16
digit_in l zero i h k = absurd (omega arith)
digit_in l (suc n) i h k =
    let b = both (are_digits l n) _ h in
    elim (eq-or-lt_of_le {n = i} {m = n} (omega arith)) [
      | inl e ↦ subst (λ (j : ℕ). hex_value (get_or l j 48) < 16) (sym e) (ltb-true _ 16 b.1)
      | inr u ↦ digit_in l n i b.0 u
    ]

digits_not : (l : List ℕ) (n i : ℕ) → i < n → 16 ≤ hex_value (get_or l i 48) → are_digits l n ≡ false
digits_not l n i h d = go (are_digits l n) refl
  where
    go : (t : Bool) → are_digits l n ≡ t → are_digits l n ≡ false
    go true e = absurd (omega (arith, digit_in l n i e h))
    go false e = e

-- ---- the test, case by case

module _ (l : List ℕ) where
  pub other_length : (length l ≡ 33 → ⊥) → false ≡ is_key l
  unfolding is_key
  other_length h = simp (ne_eqb (length l) 33 h)

  pub other_end : length l ≡ 33 → (get_or l 32 0 ≡ 10 → ⊥) → false ≡ is_key l
  unfolding is_key
  other_end e h = simp (eq-eqb (length l) 33 e, ne_eqb (get_or l 32 48) 10 (λ q. h (sym (inside l 32 (omega arith)) ∙ q)))

  pub no_digit : (i : ℕ) → length l ≡ 33 → get_or l 32 0 ≡ 10 → i < 32 → 16 ≤ hex_value (get_or l i 48) → false ≡ is_key l
  unfolding is_key
  no_digit i e q h d = simp (eq-eqb (length l) 33 e, eq-eqb (get_or l 32 48) 10 (inside l 32 (omega arith) ∙ q), digits_not l 32 i h d)

  pub key_yes : (i : ℕ) → 32 ≤ i → i ≤ 32 → length l ≡ 33 → get_or l 32 0 ≡ 10 → are_digits l i ≡ true → true ≡ is_key l
  unfolding is_key
  key_yes i lo hi e q d =
      let n : i ≡ 32 = omega arith in
      simp (eq-eqb (length l) 33 e, eq-eqb (get_or l 32 48) 10 (inside l 32 (omega arith) ∙ q), subst (λ (k : ℕ). are_digits l k ≡ true) n d)

  pub key_digits : is_key l ≡ true → are_digits l 32 ≡ true
  unfolding is_key
  key_digits h = (both (eqb (length l) 33 && eqb (get_or l 32 48) 10) (are_digits l 32) h).1

  -- ---- the key

  -- sixteen digits make a number of 64 bits
  pub key_room : is_key l ≡ true → (a : ℕ) → a ≤ 16 → number_at l a 16 < 2 ^ 64
  key_room h a u = num_below l a 16 (λ i x y. digit_in l 32 i (key_digits h) (omega arith))

  pub key_bad : is_key l ≡ false → Bad ≡ key_of l
  unfolding key_of
  key_bad h = simp h

  pub key_known : (w0 k0 : ℕ) → is_key l ≡ true → w0 ≡ w0_of l → k0 ≡ k0_of l → Known (record { w0 = w0; k0 = k0 }) ≡ key_of l
  unfolding key_of
  key_known w0 k0 h e f = simp (h, e, f)

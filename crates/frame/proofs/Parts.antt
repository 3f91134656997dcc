-- The parts of a list of bytes, and the words laid in them.
use mathlib.Core.Path.{◌≡◌, refl, sym, ap, ap₂, ◌∙◌}
use mathlib.Core.List.{List, [], ◌∷◌, ◌++◌, append_assoc}
use mathlib.Core.Logic.{inl, inr}
use Prim.Native.Nat.{ℕ, zero, suc, ◌+◌, ◌-◌, ◌*◌, ◌<◌, ◌≤◌}
use native.Mathlib.Nat.{eq-or-lt_of_le, zero-sub}
use native.Mathlib.Numerals.{unary_clauses}
use native.Mathlib.Omega.{arith}
use lib.ListN.{length, take, drop, length-take, length-drop}
use lib.Seq.{take-nil, take_all, take_at, drop_at, take-add}
use Rattle.words.specs.Digits.{word, digits, Digits, laid}
use Rattle.words.proofs.Laws.{digits_word, length_digits, length_laid, digits_take, digits_drop}
use Rattle.frame.specs.Blocks.{part}

take_comm : (j k : ℕ) (l : List ℕ) → take j (take k l) ≡ take k (take j l)
take_comm zero k l = sym (take-nil k)
take_comm (suc j) zero l = refl
take_comm (suc j) (suc k) [] = refl
take_comm (suc j) (suc k) (x ∷ xs) = ap (λ (l : List ℕ). x ∷ l) (take_comm j k xs)

drop_take : (k n : ℕ) (l : List ℕ) → drop k (take n l) ≡ take (n - k) (drop k l)
drop_take zero n l = simp unary_clauses refl
drop_take (suc k) zero l = ap (λ (j : ℕ). take j (drop (suc k) l)) (sym (zero-sub (suc k)))
drop_take (suc k) (suc n) [] = sym (take-nil (suc n - suc k))
drop_take (suc k) (suc n) (x ∷ xs) = simp unary_clauses (drop_take k n xs)

-- a part of the first n bytes
pub part_take : (n i : ℕ) (l : List ℕ) → part (take n l) i ≡ take (n - i * 8) (part l i)
part_take n i l = ap (take 8) (drop_take (i * 8) n l) ∙ take_comm 8 (n - i * 8) (drop (i * 8) l)

-- word i of the words laid in a list
at_part : (f : ℕ → ℕ) (q i : ℕ) (t : List ℕ) → i ≡ q → part (laid q f ++ (digits 8 8 (f q) ++ t)) i ≡ digits 8 8 (f i)
at_part f q i t e =
    ap (take 8) (drop_at (laid q f) (digits 8 8 (f q) ++ t) (i * 8) (length_laid q f ∙ ap (λ (x : ℕ). x * 8) (sym e)))
    ∙ take_at (digits 8 8 (f q)) t 8 (length_digits 8 8 (f q))
    ∙ ap (λ (x : ℕ). digits 8 8 (f x)) (sym e)

pub part_laid : (q : ℕ) (f : ℕ → ℕ) (t : List ℕ) (i : ℕ) → i < q → part (laid q f ++ t) i ≡ digits 8 8 (f i)
part_laid zero f t i h = absurd (omega arith)
part_laid (suc q) f t i h =
    ap (λ (l : List ℕ). part l i) (append_assoc (laid q f) (digits 8 8 (f q)) t)
    ∙ elim (eq-or-lt_of_le {n = i} {m = q} (omega arith)) [
      | inl e ↦ at_part f q i t e
      | inr l ↦ part_laid q f (digits 8 8 (f q) ++ t) i l
    ]

-- what stands behind the words
pub part_behind : (q : ℕ) (f : ℕ → ℕ) (w : ℕ) → part (laid q f ++ digits 8 8 w) q ≡ digits 8 8 w
part_behind q f w = ap (take 8) (drop_at (laid q f) (digits 8 8 w) (q * 8) (length_laid q f)) ∙ take_all 8 (digits 8 8 w) (omega (arith, length_digits 8 8 w))

-- a whole part is the bytes of its word
pub part_word : {c : List ℕ} (i : ℕ) → Digits 8 c → i * 8 + 8 ≤ length c → digits 8 8 (word 8 (part c i)) ≡ part c i
part_word {c} i h l =
    let size : length (part c i) ≡ 8 = simp (length-take, length-drop) (omega arith) in
    ap (λ (k : ℕ). digits 8 k (word 8 (part c i))) (sym size) ∙ digits_word (digits_take 8 (digits_drop (i * 8) h))

-- two lists are the same if their parts are
take_parts : (q : ℕ) (l k : List ℕ) → ((i : ℕ) → i < q → part l i ≡ part k i) → take (q * 8) l ≡ take (q * 8) k
take_parts zero l k h = refl
take_parts (suc q) l k h =
    let e : q * 8 + 8 ≡ suc q * 8 = omega arith in
    ap (λ (j : ℕ). take j l) (sym e)
    ∙ take-add (q * 8) 8 l
    ∙ ap₂ ◌++◌ (take_parts q l k (λ i u. h i (omega arith))) (h q (omega arith))
    ∙ sym (take-add (q * 8) 8 k)
    ∙ ap (λ (j : ℕ). take j k) e

pub same_parts : (q : ℕ) (l k : List ℕ) → length l ≤ q * 8 → length k ≤ q * 8 → ((i : ℕ) → i < q → part l i ≡ part k i) → l ≡ k
same_parts q l k hl hk h = sym (take_all (q * 8) l hl) ∙ take_parts q l k h ∙ take_all (q * 8) k hk

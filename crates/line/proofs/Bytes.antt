-- The bytes that a line's digits stand for.
use Prim.Native.Nat.{ℕ, zero, suc, ◌+◌, ◌*◌, ◌≤◌}
use mathlib.Core.Path.{◌≡◌, refl, sym, ap, ap₂, ◌∙◌}
use mathlib.Core.List.{List, [], ◌∷◌}
use native.Mathlib.Omega.{arith}
use lib.ListN.{length, get_or, take, length-take}
use lib.Seq.{take_all}
use Rattle.words.specs.Digits.{word}
use Rattle.words.specs.Lists.{upto}
use Rattle.words.proofs.Laws.{word_append}
use Rattle.cells.proofs.Upto.{upto_same}
use Rattle.frame.proofs.Laws.{upto_more, upto_turn}
use Rattle.line.specs.Reader.{hex_value, number_at, bytes_at}
use Rattle.line.proofs.Shape.{num_small}

-- the number of n digits from place a on is the word of their values
pub number_word : (s : List ℕ) (a n : ℕ) → number_at s a n ≡ word 4 (upto n (λ i. hex_value (get_or s (a + i) 48)))
unfolding upto number_at
number_word s a zero = refl
number_word s a (suc n) =
    let f : ℕ → ℕ = λ i. hex_value (get_or s (a + i) 48) in
    ap (λ (x : ℕ). x * 16 + f n) (number_word s a n) ∙ sym (ap (word 4) (upto_more n f) ∙ word_append 4 0 (upto n f) (f n ∷ []))

-- byte i has its digits at a + 2 * i
bytes_upto : (s : List ℕ) (a n : ℕ) → upto n (λ i. number_at s (a + 2 * i) 2) ≡ bytes_at s a n
unfolding upto
bytes_upto s a zero = refl
bytes_upto s a (suc n) =
    ap₂ ◌∷◌ (ap (λ (x : ℕ). number_at s x 2) (omega arith))
    (upto_same n (λ i l. ap (λ (x : ℕ). number_at s x 2) (omega arith)) ∙ bytes_upto s (a + 2) n)

pub bytes_read : (s out : List ℕ) (a i n : ℕ) → i ≡ n → length out ≡ n → take i out ≡ upto i (λ k. number_at s (a + 2 * k) 2) → out ≡ bytes_at s a n
bytes_read s out a i n e l h = sym (take_all i out (omega arith)) ∙ h ∙ ap (λ (x : ℕ). upto x (λ k. number_at s (a + 2 * k) 2)) e ∙ bytes_upto s a n

-- the first k of some bytes
pub taken_most : (k n : ℕ) (l : List ℕ) → k ≤ n → length (take k l) ≤ n
taken_most k n l h = simp length-take (omega arith)

-- for the loop that reads bytes
pub ruleset turns = (upto_turn, bytes_read, num_small)

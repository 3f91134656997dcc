-- Texts: numbers in decimal, and one text behind another.
use Prim.Native.Nat.{ℕ, zero, suc, ◌+◌, ◌-◌, ◌/◌, ◌%◌, ◌^◌, ◌≤◌, ◌<◌}
use mathlib.Core.Bool.{Bool, true, false, cond}
use mathlib.Core.Path.{◌≡◌, refl, sym, ap, ap₂, ◌∙◌}
use mathlib.Core.List.{List, [], ◌∷◌, ◌++◌, append_assoc}
use native.Mathlib.Nat.{le_refl, pow-suc, div-lt_iff_lt-mul}
use native.Mathlib.Omega.{arith}
use borrow.Author.Tests.{lt-ltb, le-ltb}
use lib.Dec.{lit<, ltb}
use lib.ListN.{length, take, drop, set, length-append, length-drop, length-set}
use lib.Seq.{drop-cons, lt-length-set, get_or-set_same, drop-set-lt, take_at, take_all, take-length, drop-append-add, drop-drop, paste, length_paste_head}
use Rattle.texts.specs.Texts.{spelled, decimal, Appended}

-- ---- a number, digit by digit from the last

drop_set : (text : List ℕ) (i b : ℕ) → i < length text → drop i (set text i b) ≡ b ∷ drop (suc i) text
drop_set text i b h = drop-cons (set text i b) i 0 (lt-length-set text i b h) ∙ ap₂ {C = List ℕ} (λ x l. x ∷ l) (get_or-set_same text i b 0 h) (drop-set-lt (suc i) text i b (le_refl (suc i)))

spelled_more : (i n : ℕ) → 10 ≤ n → spelled (suc i) n ≡ spelled i (n / 10) ++ (n % 10 + 48) ∷ []
unfolding spelled
spelled_more i n h = simp (le-ltb n 10 h)

spelled_last : (i n : ℕ) → n < 10 → spelled (suc i) n ≡ (n + 48) ∷ []
unfolding spelled
spelled_last i n h = simp (lt-ltb n 10 h)

some_left : (i n : ℕ) → 10 ≤ n → n < 10 ^ suc i → 1 ≤ i
some_left zero n h l = absurd (omega arith)
some_left (suc i) n h l = omega arith

pub record Spelling (x i rest : ℕ) (text : List ℕ) : Type 0 where
  pub place : i ≤ 19
  pub left : rest < 10 ^ suc i
  pub size : length text ≡ 20
  pub whole : spelled (suc i) rest ++ drop (suc i) text ≡ decimal x

pub spell_turn : (x i rest : ℕ) (text : List ℕ) → 10 ≤ rest → Spelling x i rest text → (1 ≤ i) × Spelling x (i - 1) (rest / 10) (set text i (rest % 10 + 48))
spell_turn x i rest text h s = (some_left i rest h s.left, turned i s)
  where
    turned : (i : ℕ) → Spelling x i rest text → Spelling x (i - 1) (rest / 10) (set text i (rest % 10 + 48))
    turned zero s = absurd (omega (arith, s.left))
    turned (suc i) s =
        let e : suc i - 1 ≡ i = omega arith in
        rw e
        (record {
          place = omega (arith, s.place);
          left = (div-lt_iff_lt-mul {k = 10} (lit< tt)).1 (rw pow-suc at s.left);
          size = length-set text (suc i) _ ∙ s.size;
          whole =
              ap (λ (l : List ℕ). spelled (suc i) (rest / 10) ++ l) (drop_set text (suc i) (rest % 10 + 48) (omega (arith, s.place, s.size)))
              ∙ sym (append_assoc (spelled (suc i) (rest / 10)) ((rest % 10 + 48) ∷ []) (drop (suc (suc i)) text))
              ∙ ap (λ (l : List ℕ). l ++ drop (suc (suc i)) text) (sym (spelled_more (suc i) rest h))
              ∙ s.whole;
        })

spell_end : (x i rest : ℕ) (text : List ℕ) → rest < 10 → Spelling x i rest text → drop i (set text i (rest + 48)) ≡ decimal x
spell_end x i rest text h s =
    drop_set text i (rest + 48) (omega (arith, s.place, s.size))
    ∙ ap (λ (l : List ℕ). l ++ drop (suc i) text) (sym (spelled_last i rest h))
    ∙ s.whole

pub spell_part : (x i rest : ℕ) (text : List ℕ) → rest < 10 → Spelling x i rest text → take (20 - i) (drop i (set text i (rest + 48))) ≡ decimal x
spell_part x i rest text h s = take_all (20 - i) (drop i (set text i (rest + 48))) (simp (length-drop, length-set) (omega (arith, s.size))) ∙ spell_end x i rest text h s

spelled_short : (k n : ℕ) → length (spelled k n) ≤ k
unfolding spelled
spelled_short zero n = omega arith
spelled_short (suc k) n = go (ltb n 10) (spelled_short k (n / 10))
  where
    go : (t : Bool) → length (spelled k (n / 10)) ≤ k → length (cond t ((n + 48) ∷ []) (spelled k (n / 10) ++ (n % 10 + 48) ∷ [])) ≤ suc k
    go true h = omega arith
    go false h = omega (arith, length-append (spelled k (n / 10)) ((n % 10 + 48) ∷ []), h)

pub decimal_short : (n : ℕ) → length (decimal n) ≤ 20
decimal_short n = spelled_short 20 n

-- ---- one text behind another

pasted : (d t u : List ℕ) (n : ℕ) → n + length t + length u ≤ length d → paste (paste d n t (length t)) (n + length t) u (length u) ≡ paste d n (t ++ u) (length (t ++ u))
pasted d t u n room =
    let b : List ℕ = take n d ++ take (length t) t in
    let size : length b ≡ n + length t = length_paste_head d n t (length t) (omega arith) (le_refl (length t)) in
    let sum : n + length t + length u ≡ n + length (t ++ u) = omega (arith, length-append t u) in
    ap₂ (λ (x y : List ℕ). x ++ take (length u) u ++ y)
    (take_at b (drop (n + length t) d) (n + length t) size)
    (ap (λ (k : ℕ). drop (k + length u) (b ++ drop (n + length t) d)) (sym size) ∙ drop-append-add b (drop (n + length t) d) (length u) ∙ drop-drop (length u) (n + length t) d ∙ ap (λ (k : ℕ). drop k d) sum)
    ∙ ap (λ (x : List ℕ). x ++ drop (n + length (t ++ u)) d)
    (ap₂ (λ (x y : List ℕ). take n d ++ x ++ y) (take-length t) (take-length u) ∙ append_assoc (take n d) t u ∙ ap (λ (x : List ℕ). take n d ++ x) (sym (take-length (t ++ u))))

pub and_then : {d o p t u : List ℕ} {n m k : ℕ} → Appended d n t o m → Appended o m u p k → k ≤ length d → Appended d n (t ++ u) p k
and_then {d} {o} {p} {t} {u} {n} {m} {k} a b h =
    let room : n + length t + length u ≤ length d = omega (arith, a.end, b.end) in
    record {
      end = b.end ∙ omega (arith, a.end, length-append t u);
      text = b.text ∙ ap₂ (λ (x : List ℕ) (i : ℕ). paste x i u (length u)) a.text a.end ∙ pasted d t u n room;
    }

-- no text at all
pub nothing_appended : (d : List ℕ) → Appended d 0 [] d 0
nothing_appended d = record { end = refl; text = refl }

-- one end and one memory
module _ {d t o p : List ℕ} {k m n : ℕ} (a : Appended d k t o m) (b : Appended d k t p n) where
  pub one_end : m ≡ n
  one_end = a.end ∙ sym b.end

  pub one_text : o ≡ p
  one_text = a.text ∙ sym b.text

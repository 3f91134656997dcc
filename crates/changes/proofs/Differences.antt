-- "Every difference once, and none that isn't there": of which serials the report of two good files speaks, in which order, and what it says of each.
use Prim.Native.Nat.{ℕ, zero, suc, ◌+◌, ◌^◌, ◌≤◌, ◌<◌}
use mathlib.Core.Bool.{true, false, false≢true}
use mathlib.Core.Logic.{◌⊎◌, inl, inr}
use mathlib.Core.Path.{◌≡◌, refl, sym, ap, ap₂, subst, ◌∙◌}
use mathlib.Core.List.{List, [], ◌∷◌, ◌++◌}
use native.Mathlib.Nat.{le_refl}
use native.Mathlib.Omega.{arith}
use lib.ListN.{length}
use Rattle.words.specs.Lists.{among}
use Rattle.words.proofs.Cases.{by_eq, by_lt}
use Rattle.serials.specs.Serials.{Rising, none, more}
use Rattle.line.specs.Line.{hex_digits, GoodLine, fields}
use Rattle.line.specs.Reader.{serial_of}
use Rattle.texts.specs.Lines.{lines_of}
use Rattle.changes.specs.Report.{first_text, second_text, both_text, saying, serial_digits, numbers, change, under, rising, report}
use Rattle.changes.specs.Files.{AllGood, none as none_good, more as more_good, Once, once_none, once_more, GoodFile}
use Rattle.changes.proofs.Serials.{among_here, among_later, among_last, among_first}
use Rattle.changes.proofs.Handles.{fields_serial}
use Rattle.changes.proofs.Files.{under_here, under_other}
use Rattle.changes.proofs.Refused.{lines_read}
use Rattle.changes.proofs.Demands.{same_silent, pair_said_of, under_digits}

-- ---- the lines of a serial in a good file: none, or one

once_under : (t : ℕ) {seen : List ℕ} {ls : List (List ℕ)} → Once seen ls → among t seen ≡ true → under t ls ≡ []
unfolding under
once_under t once_none h = refl
once_under t {seen} (once_more {l = l} {ls = ls} new o) h =
    under_other t l ls (λ e. false≢true (sym new ∙ ap (λ (i : ℕ). among i seen) e ∙ h))
    ∙ once_under t o (among_first t (serial_of l) seen h)

pub data AtMostOne (ls : List (List ℕ)) : Type 0 where
  no_line : ls ≡ [] → AtMostOne ls
  one_line : (l : List ℕ) → ls ≡ l ∷ [] → AtMostOne ls

pub under_once : (t : ℕ) {seen : List ℕ} {ls : List (List ℕ)} → Once seen ls → AtMostOne (under t ls)
unfolding under
under_once t once_none = no_line refl
under_once t {seen} (once_more {l = l} {ls = ls} new o) =
    by_eq (serial_of l) t
    (λ e. one_line l (under_here t l ls e ∙ ap (λ (r : List (List ℕ)). l ∷ r) (once_under t o (among_last t (serial_of l) seen (sym e)))))
    (λ e. subst AtMostOne (sym (under_other t l ls e)) (under_once t o))

-- ---- what is said of a serial t, of which two good files have the lines a and b

-- a report line: the word, the serial's 12 digits, the numbers, 0A
abbrev pub line_of_report : List ℕ → ℕ → List ℕ → List ℕ
line_of_report word t rest = word ++ (hex_digits 12 t ++ (rest ++ (10 ∷ [])))

pub data Said (t : ℕ) : List (List ℕ) → List (List ℕ) → List ℕ → Type 0 where
  in_neither : Said t [] [] []
  first_only : (x : List ℕ) → Said t (x ∷ []) [] (line_of_report first_text t [])
  second_only : (y : List ℕ) → Said t [] (y ∷ []) (line_of_report second_text t [])
  same_in_both : (x : List ℕ) → Said t (x ∷ []) (x ∷ []) []
  different : (x y : List ℕ) → (x ≡ y → ⊥) → Said t (x ∷ []) (y ∷ []) (line_of_report both_text t (numbers x y))

list_eq? : (x y : List ℕ) → (x ≡ y) ⊎ (x ≡ y → ⊥)
list_eq? [] [] = inl refl
list_eq? [] (b ∷ y) = inr (λ e. absurd (omega (arith, ap length e)))
list_eq? (a ∷ x) [] = inr (λ e. absurd (omega (arith, ap length e)))
list_eq? (a ∷ x) (b ∷ y) = go (by_eq a b inl inr) (list_eq? x y)
  where
    go : (a ≡ b) ⊎ (a ≡ b → ⊥) → (x ≡ y) ⊎ (x ≡ y → ⊥) → (a ∷ x ≡ b ∷ y) ⊎ (a ∷ x ≡ b ∷ y → ⊥)
    go (inl p) (inl q) = inl (ap₂ ◌∷◌ p q)
    go (inl p) (inr q) = inr (λ e. let z : x ≡ y = cc in q z)
    go (inr p) q = inr (λ e. let z : a ≡ b = cc in p z)

said_line : (t : ℕ) (w x n : List ℕ) → serial_digits x ≡ hex_digits 12 t → line_of_report w t n ≡ saying w x n
unfolding saying
said_line t w x n d = ap (λ (l : List ℕ). w ++ (l ++ (n ++ (10 ∷ [])))) (sym d)

module _ (f g : List ℕ) (good : GoodFile f) (good' : GoodFile g) (t : ℕ) where
  first_digits : (x : List ℕ) → under t (lines_of f) ≡ x ∷ [] → serial_digits x ≡ hex_digits 12 t
  first_digits x e = under_digits t 0 (lines_of f) (lines_read 0 good.lines) x [] e

  second_digits : (y : List ℕ) → under t (lines_of g) ≡ y ∷ [] → serial_digits y ≡ hex_digits 12 t
  second_digits y e = under_digits t 0 (lines_of g) (lines_read 0 good'.lines) y [] e

  said_of_pair : (x y : List ℕ) → under t (lines_of f) ≡ x ∷ [] → (x ≡ y) ⊎ (x ≡ y → ⊥) → Said t (x ∷ []) (y ∷ []) (change (x ∷ []) (y ∷ []))
  unfolding change
  said_of_pair x y e (inl p) = subst (λ (z : List ℕ). Said t (x ∷ []) (z ∷ []) (change (x ∷ []) (z ∷ []))) p (subst (Said t (x ∷ []) (x ∷ [])) (sym (same_silent x)) (same_in_both x))
  said_of_pair x y e (inr p) = subst (Said t (x ∷ []) (y ∷ [])) (said_line t both_text x (numbers x y) (first_digits x e) ∙ sym (pair_said_of x y p)) (different x y p)

  pub said : Said t (under t (lines_of f)) (under t (lines_of g)) (change (under t (lines_of f)) (under t (lines_of g)))
  unfolding change
  said = go (under_once t good.once) (under_once t good'.once)
    where
      S : List (List ℕ) → List (List ℕ) → Type 0
      S a b = Said t a b (change a b)

      both : {a b c d : List (List ℕ)} → a ≡ c → b ≡ d → S c d → S a b
      both {a} {b} {c} {d} p q s = subst (λ (x : List (List ℕ)). S x b) (sym p) (subst (S c) (sym q) s)

      go : AtMostOne (under t (lines_of f)) → AtMostOne (under t (lines_of g)) → S (under t (lines_of f)) (under t (lines_of g))
      go (no_line p) (no_line q) = both p q in_neither
      go (one_line x p) (no_line q) = both p q (subst (Said t (x ∷ []) []) (said_line t first_text x [] (first_digits x p)) (first_only x))
      go (no_line p) (one_line y q) = both p q (subst (Said t [] (y ∷ [])) (said_line t second_text y [] (second_digits y q)) (second_only y))
      go (one_line x p) (one_line y q) = both p q (said_of_pair x y p (list_eq? x y))

-- ---- of which serials the report speaks: they rise

-- the serials of which f says something, of the n from s on
abbrev behind : ℕ → List ℕ → List ℕ → List ℕ
behind s [] rest = rest
behind s (b ∷ bs) rest = s ∷ rest

unfoldable spoken : (ℕ → List ℕ) → ℕ → ℕ → List ℕ
spoken f zero s = []
spoken f (suc n) s = behind s (f s) (spoken f n (s + 1))

-- what f says of these serials, one behind another
abbrev pub joined : (ℕ → List ℕ) → List ℕ → List ℕ
joined f [] = []
joined f (t ∷ ts) = f t ++ joined f ts

rising_less : {a b : ℕ} {l : List ℕ} → a ≤ b → Rising b l → Rising a l
rising_less h none = none
rising_less {a} h (more {x = x} k r) = let l : a ≤ x = omega arith in more l r

behind_rising : (s : ℕ) (x : List ℕ) {rest : List ℕ} → Rising (s + 1) rest → Rising s (behind s x rest)
behind_rising s [] r = rising_less (omega arith) r
behind_rising s (b ∷ bs) r = more (le_refl s) r

spoken_rising : (f : ℕ → List ℕ) (n s : ℕ) → Rising s (spoken f n s)
unfolding spoken
spoken_rising f zero s = none
spoken_rising f (suc n) s = behind_rising s (f s) (spoken_rising f n (s + 1))

behind_joined : (f : ℕ → List ℕ) (s : ℕ) (x rest : List ℕ) → f s ≡ x → f s ++ joined f rest ≡ joined f (behind s x rest)
behind_joined f s [] rest e = ap (λ (l : List ℕ). l ++ joined f rest) e
behind_joined f s (b ∷ bs) rest e = refl

spoken_joined : (f : ℕ → List ℕ) (n s : ℕ) → rising f n s ≡ joined f (spoken f n s)
unfolding rising spoken
spoken_joined f zero s = refl
spoken_joined f (suc n) s = ap (λ (l : List ℕ). f s ++ l) (spoken_joined f n (s + 1)) ∙ behind_joined f s (f s) (spoken f n (s + 1)) refl

behind_here : (s : ℕ) (x rest : List ℕ) → (x ≡ [] → ⊥) → among s (behind s x rest) ≡ true
behind_here s [] rest h = absurd (h refl)
behind_here s (b ∷ bs) rest h = among_here s s rest refl

behind_later : (t s : ℕ) (x rest : List ℕ) → (t ≡ s → ⊥) → among t (behind s x rest) ≡ among t rest
behind_later t s [] rest h = refl
behind_later t s (b ∷ bs) rest h = among_later t s rest h

spoken_all : (f : ℕ → List ℕ) (n s t : ℕ) → s ≤ t → t < s + n → (f t ≡ [] → ⊥) → among t (spoken f n s) ≡ true
unfolding spoken
spoken_all f zero s t h k z = absurd (omega arith)
spoken_all f (suc n) s t h k z =
    by_eq t s
    (λ e. ap (λ (i : ℕ). among i (behind s (f s) (spoken f n (s + 1)))) e ∙ behind_here s (f s) (spoken f n (s + 1)) (λ q. z (ap f e ∙ q)))
    (λ e. behind_later t s (f s) (spoken f n (s + 1)) e ∙ spoken_all f n (s + 1) t (omega arith) (omega arith) z)

below_none : (t s : ℕ) {l : List ℕ} → t < s → Rising s l → among t l ≡ false
below_none t s h none = refl
below_none t s h (more {x = x} {xs = xs} k r) = among_later t x xs (λ e. absurd (omega arith)) ∙ below_none t (x + 1) (omega arith) r

spoken_only : (f : ℕ → List ℕ) (n s t : ℕ) → among t (spoken f n s) ≡ true → f t ≡ [] → ⊥
unfolding spoken
spoken_only f zero s t e z = false≢true e
spoken_only f (suc n) s t e z =
    by_eq t s
    (λ q.
    let silent : f s ≡ [] = ap f (sym q) ∙ z in
    let rest : among t (spoken f n (s + 1)) ≡ true = ap (λ (x : List ℕ). among t (behind s x (spoken f n (s + 1)))) (sym silent) ∙ e in
    false≢true (sym (below_none t (s + 1) (omega arith) (spoken_rising f n (s + 1))) ∙ rest))
    (λ q. spoken_only f n (s + 1) t (sym (behind_later t s (f s) (spoken f n (s + 1)) q) ∙ e) z)

-- nothing is said of a serial exactly when both files have the same of it: one line, or none
pub silent_same : {t : ℕ} {a b : List (List ℕ)} {r : List ℕ} → Said t a b r → r ≡ [] → a ≡ b
silent_same in_neither e = refl
silent_same (first_only x) e = absurd (omega (arith, ap length e))
silent_same (second_only y) e = absurd (omega (arith, ap length e))
silent_same (same_in_both x) e = refl
silent_same (different x y n) e = absurd (omega (arith, ap length e))

pub same_silent_of : {t : ℕ} {a b : List (List ℕ)} {r : List ℕ} → Said t a b r → a ≡ b → r ≡ []
same_silent_of in_neither e = refl
same_silent_of (first_only x) e = absurd (omega (arith, ap length e))
same_silent_of (second_only y) e = absurd (omega (arith, ap length e))
same_silent_of (same_in_both x) e = refl
same_silent_of (different x y n) e = let z : x ≡ y = cc in absurd (n z)

-- no good line has a serial that is none
line_serial : (l : List ℕ) → GoodLine l → serial_of l < 2 ^ 44
line_serial l (f, k) =
    let s = fields_serial l _ _ (fields f k) refl in
    omega (arith, s.0, s.1)

under_high : (t : ℕ) {ls : List (List ℕ)} → 2 ^ 44 ≤ t → AllGood ls → under t ls ≡ []
unfolding under
under_high t h none_good = refl
under_high t h (more_good {l = l} {ls = ls} g r) = under_other t l ls (λ e. absurd (omega (arith, line_serial l g))) ∙ under_high t h r

-- the serials of which the report of two good files speaks: they rise strictly, the report is what is said of them, one behind another, and they are those whose lines in the two files are not the same
pub record Differences (f g : List ℕ) : Type 0 where
  pub serials : List ℕ
  pub rise : Rising 0 serials
  pub whole : report (lines_of f) (lines_of g) ≡ joined (λ t. change (under t (lines_of f)) (under t (lines_of g))) serials
  pub all : (t : ℕ) → (under t (lines_of f) ≡ under t (lines_of g) → ⊥) → among t serials ≡ true
  pub only : (t : ℕ) → among t serials ≡ true → under t (lines_of f) ≡ under t (lines_of g) → ⊥

pub differences : (f g : List ℕ) → GoodFile f → GoodFile g → Differences f g
unfolding report
differences f g h k =
    let say : ℕ → List ℕ = λ (t : ℕ). change (under t (lines_of f)) (under t (lines_of g)) in
    record {
      serials = spoken say (2 ^ 44) 0;
      rise = spoken_rising say (2 ^ 44) 0;
      whole = spoken_joined say (2 ^ 44) 0;
      all = λ t n.
          by_lt t (2 ^ 44)
          (λ l. spoken_all say (2 ^ 44) 0 t (omega arith) (omega arith) (λ e. n (silent_same (said f g h k t) e)))
          (λ l. absurd (n (under_high t l h.lines ∙ sym (under_high t l k.lines))));
      only = λ t e q. spoken_only say (2 ^ 44) 0 t e (same_silent_of (said f g h k t) q);
    }

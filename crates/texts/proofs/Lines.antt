-- The first line of a text and the lines behind it; how many lines there are.
use Prim.Native.Nat.{ℕ, suc, ◌+◌, ◌-◌, ◌≤◌, ◌<◌}
use mathlib.Core.Bool.{Bool, true, false, cond}
use mathlib.Core.Path.{◌≡◌, refl, sym, ap, ◌∙◌}
use mathlib.Core.List.{List, [], ◌∷◌}
use native.Mathlib.Omega.{arith}
use native.Mathlib.Numerals.{add-one}
use borrow.Author.Tests.{eq-eqb, ne_eqb, lt-ltb, le-ltb}
use lib.Dec.{eqb}
use lib.ListN.{length, take, drop, get_or, length-drop}
use lib.Seq.{drop-drop}
use mathlib.Core.Bool.{not}
use native.Mathlib.Nat.{add_comm}
use Rattle.words.proofs.Cases.{by_lt}
use Rattle.std.proofs.Common.{Option, Some, None, min}
use Rattle.std.proofs.lemmas.List.{take_rest}
use Rattle.std.specs.List.{count_by, position, position_or_len}
use Rattle.std.proofs.lemmas.List.Recursion.{is_count_by}
use Rattle.texts.specs.Lines.{on_first, lines_of, line_length, ends, last_of, unended}

pub line_short : (s : List ℕ) → line_length s ≤ length s
unfolding line_length
line_short [] = omega arith
line_short (b ∷ s) = go (eqb b 10) (line_short s)
  where
    go : (t : Bool) → line_length s ≤ length s → cond t 1 (suc (line_length s)) ≤ suc (length s)
    go true h = omega arith
    go false h = omega arith

pub line_some : (b : ℕ) (s : List ℕ) → 1 ≤ line_length (b ∷ s)
unfolding line_length
line_some b s = go (eqb b 10)
  where
    go : (t : Bool) → 1 ≤ cond t 1 (suc (line_length s))
    go true = omega arith
    go false = omega arith

pub lines_first : (b : ℕ) (s : List ℕ) → lines_of (b ∷ s) ≡ take (line_length (b ∷ s)) (b ∷ s) ∷ lines_of (drop (line_length (b ∷ s)) (b ∷ s))
unfolding lines_of line_length
lines_first b [] = go (eqb b 10)
  where
    go : (t : Bool) → cond t ((b ∷ []) ∷ []) ((b ∷ []) ∷ []) ≡ take (cond t 1 1) (b ∷ []) ∷ lines_of (drop (cond t 1 1) (b ∷ []))
    go true = refl
    go false = refl
lines_first b (c ∷ s) = go (lines_first c s) (eqb b 10)
  where
    go : lines_of (c ∷ s) ≡ take (line_length (c ∷ s)) (c ∷ s) ∷ lines_of (drop (line_length (c ∷ s)) (c ∷ s)) → (t : Bool) → cond t ((b ∷ []) ∷ lines_of (c ∷ s)) (on_first b (lines_of (c ∷ s)))
        ≡ take (cond t 1 (suc (line_length (c ∷ s)))) (b ∷ c ∷ s) ∷ lines_of (drop (cond t 1 (suc (line_length (c ∷ s)))) (b ∷ c ∷ s))
    go h true = refl
    go h false = ap (on_first b) h

-- ---- how many lines there are

-- a byte before a line is one of its bytes
same_count : (b c : ℕ) (s : List ℕ) → length (on_first b (lines_of (c ∷ s))) ≡ length (lines_of (c ∷ s))
same_count b c s = ap (λ (ls : List (List ℕ)). length (on_first b ls)) (lines_first c s) ∙ sym (ap length (lines_first c s))

-- as many lines as bytes 0A, and one more for a last piece that is not ended
pub lines_counted : (s : List ℕ) → length (lines_of s) ≡ ends s + unended s
unfolding lines_of ends unended
lines_counted [] = refl
lines_counted (b ∷ []) = go (eqb b 10)
  where
    go : (t : Bool) → length (cond t ((b ∷ []) ∷ []) ((b ∷ []) ∷ [])) ≡ cond t 1 0 + cond t 0 1
    go true = refl
    go false = refl
lines_counted (b ∷ c ∷ s) = go (eqb b 10) (lines_counted (c ∷ s))
  where
    go : (t : Bool) → length (lines_of (c ∷ s)) ≡ ends (c ∷ s) + unended (c ∷ s)
        → length (cond t ((b ∷ []) ∷ lines_of (c ∷ s)) (on_first b (lines_of (c ∷ s)))) ≡ cond t (suc (ends (c ∷ s))) (ends (c ∷ s)) + unended (c ∷ s)
    go true h = omega (arith, h)
    go false h = same_count b c s ∙ h

-- an empty text has no line
lines_none : (s : List ℕ) → length s ≡ 0 → length (lines_of s) ≡ 0
unfolding lines_of
lines_none [] h = refl
lines_none (b ∷ s) h = absurd (omega arith)

-- the last byte says whether the last piece is ended
last_at : (b : ℕ) (s : List ℕ) → get_or (b ∷ s) (length s) 0 ≡ last_of b s
last_at b [] = refl
last_at b (c ∷ s) = last_at c s

ended_as_lem : (b : ℕ) (s : List ℕ) → get_or (b ∷ s) (length s) 0 ≡ 10 → unended (b ∷ s) ≡ 0
unfolding unended
ended_as_lem b s e = simp (eq-eqb (last_of b s) 10 (sym (last_at b s) ∙ e))

unended_as : (b : ℕ) (s : List ℕ) → (get_or (b ∷ s) (length s) 0 ≡ 10 → ⊥) → unended (b ∷ s) ≡ 1
unfolding unended
unended_as b s e = simp (ne_eqb (last_of b s) 10 (λ h. e (last_at b s ∙ h)))

-- the same of a text of i bytes, which is not empty
module _ (i : ℕ) where
  all_ended : (s : List ℕ) → i ≡ length s → 1 ≤ i → get_or s (i - 1) 0 ≡ 10 → unended s ≡ 0
  all_ended [] n h e = absurd (omega arith)
  all_ended (b ∷ s) n h e = let k : i - 1 ≡ length s = omega arith in ended_as_lem b s (rw k at e)

  one_unended : (s : List ℕ) → i ≡ length s → 1 ≤ i → (get_or s (i - 1) 0 ≡ 10 → ⊥) → unended s ≡ 1
  one_unended [] n h e = absurd (omega arith)
  one_unended (b ∷ s) n h e = let k : i - 1 ≡ length s = omega arith in unended_as b s (rw k at e)

-- whether a byte is 0A
abbrev pub is_end : ℕ → Bool
is_end b = eqb b 10

ends_counted : (s : List ℕ) → ends s ≡ count_by is_end s
unfolding ends
ends_counted s = is_count_by ends is_end refl (λ _ xs. rw (add_comm 1 (ends xs), add-one)) s

-- n bytes are 0A, and the last byte says whether there is one line more
module _ (s : List ℕ) (n : ℕ) (all : n ≡ count_by is_end s) where
  pub counted_ended : (0 < length s → get_or s (length s - 1) 0 ≡ 10) → n ≡ length (lines_of s)
  counted_ended e =
      by_lt 0 (length s)
      (λ h. omega (arith, all, ends_counted s, lines_counted s, all_ended (length s) s refl (omega arith) (e h)))
      (λ h. omega (arith, all, ends_counted s, lines_counted s, lines_none s (omega arith)))

  pub counted_unended : 0 < length s → (get_or s (length s - 1) 0 ≡ 10 → ⊥) → n + 1 ≡ length (lines_of s)
  counted_unended h e = omega (arith, all, ends_counted s, lines_counted s, one_unended (length s) s refl (omega arith) e)

-- ---- where a line ends: behind its first 0A, or with the text

length_first : (s : List ℕ) → line_length s ≡ min (length s) (position_or_len is_end s + 1)
unfolding line_length
length_first [] = refl
length_first (b ∷ s) = go (eqb b 10) (length_first s)
  where
    go : (t : Bool) → line_length s ≡ min (length s) (position_or_len is_end s + 1) → cond t 1 (suc (line_length s)) ≡ min (suc (length s)) (cond (not t) (1 + position_or_len is_end s) 0 + 1)
    go true h = omega arith
    go false h = omega (arith, h)

module _ (s : List ℕ) where
  length_some : (i : ℕ) → position is_end s ≡ Some i → line_length s ≡ i + 1
  length_some i e =
      by_lt (position_or_len is_end s) (length s)
      (λ h.
      let found : ◌≡◌ {A = Option ℕ} (Some (position_or_len is_end s)) (Some i) = rw (lt-ltb (position_or_len is_end s) (length s) h) at e in
      let same : position_or_len is_end s ≡ i = cc in
      omega (arith, h, same, length_first s))
      (λ h. let lost : ◌≡◌ {A = Option ℕ} None (Some i) = rw (le-ltb (position_or_len is_end s) (length s) h) at e in cc)

  length_none : position is_end s ≡ None → line_length s ≡ length s
  length_none e =
      by_lt (position_or_len is_end s) (length s)
      (λ h. let found : ◌≡◌ {A = Option ℕ} (Some (position_or_len is_end s)) None = rw (lt-ltb (position_or_len is_end s) (length s) h) at e in cc)
      (λ h. omega (arith, h, length_first s))

-- r is where the first 0A from a place on stands
module _ (s : List ℕ) (a : ℕ) {r : Option ℕ} (first : r ≡ position is_end (take (length s - a) (drop a s))) where
  from_place : r ≡ position is_end (drop a s)
  from_place = rw (take_rest s a) at first

  pub ends_behind : (i : ℕ) → r ≡ Some i → a + i + 1 ≡ a + line_length (drop a s)
  ends_behind i e = omega (arith, length_some (drop a s) i (sym from_place ∙ e))

  pub ends_with : a ≤ length s → r ≡ None → length s ≡ a + line_length (drop a s)
  ends_with h e = omega (arith, h, length-drop a s, length_none (drop a s) (sym from_place ∙ e))

-- ---- the lines from a place on

lines_some : (l : List ℕ) → 0 < length l → lines_of l ≡ take (line_length l) l ∷ lines_of (drop (line_length l) l)
lines_some [] h = absurd (omega arith)
lines_some (b ∷ l) h = lines_first b l

-- the line that begins at a, and the lines behind it
pub lines_at : (s : List ℕ) (a : ℕ) → a < length s → lines_of (drop a s) ≡ take (line_length (drop a s)) (drop a s) ∷ lines_of (drop (a + line_length (drop a s)) s)
lines_at s a h =
    lines_some (drop a s) (omega (arith, length-drop a s))
    ∙ ap (λ (r : List ℕ). take (line_length (drop a s)) (drop a s) ∷ lines_of r) (drop-drop (line_length (drop a s)) a s)

line_pos : (l : List ℕ) → 0 < length l → 1 ≤ line_length l
line_pos [] h = absurd (omega arith)
line_pos (b ∷ l) h = line_some b l

pub line_within : (s : List ℕ) (a : ℕ) → a < length s → (1 ≤ line_length (drop a s)) × (a + line_length (drop a s) ≤ length s)
line_within s a h = (line_pos (drop a s) (omega (arith, length-drop a s)), omega (arith, line_short (drop a s), length-drop a s))

-- Bytes gathered from a chunk, as the loop does it.
use Prim.Native.Nat.{ℕ, suc, ◌+◌, ◌≤◌, ◌<◌}
use mathlib.Core.Bool.{true, false}
use mathlib.Core.Path.{◌≡◌, refl, sym, ap, ap₂, ◌∙◌}
use mathlib.Core.List.{List, [], ◌∷◌, ◌++◌}
use native.Mathlib.Numerals.{add-one}
use native.Mathlib.Omega.{arith}
use borrow.Author.Tests.{lt-ltb, le-ltb, eq-eqb, ne_eqb}
use lib.ListN.{length, get_or, take, drop, set, length-append, length-take, length-set, drop_of_length-le}
use lib.Seq.{drop-cons, take_all, take-append-le, take-suc-set}
use Rattle.words.proofs.Cases.{by_lt}
use Rattle.listing.specs.Chunks.{pushing, pushed, gathering}
use Rattle.listing.specs.declared.Gathered.{Gathered}

-- ---- one byte

module _ (line : List ℕ) (held b : ℕ) where
  pub push_room : held < 2150 → (held + 1 ≡ pushed held) × (set line held b ≡ pushing line held b)
  unfolding pushed pushing
  push_room h = simp (lt-ltb held 2150 h) (refl, refl)

  pub push_full : 2150 ≤ held → (held ≡ pushed held) × (line ≡ pushing line held b)
  unfolding pushed pushing
  push_full h = simp (le-ltb held 2150 h) (refl, refl)

  pub push_few : held ≤ 2150 → pushed held ≤ 2150
  push_few h = by_lt held 2150 (λ l. omega (arith, (push_room l).0)) (λ l. omega (arith, (push_full l).0))

  pub push_length : length (pushing line held b) ≡ length line
  push_length = by_lt held 2150 (λ l. sym (ap length (push_room l).1) ∙ length-set line held b) (λ l. sym (ap length (push_full l).1))

  -- the first 2,150 bytes, where so many are held at most
  pub push_bytes : held ≤ 2150 → 2150 ≤ length line → take (pushed held) (pushing line held b) ≡ take 2150 (take held line ++ b ∷ [])
  push_bytes h room =
      by_lt held 2150
      (λ l.
      ap₂ take (sym (push_room l).0) (sym (push_room l).1)
      ∙ ap (λ (k : ℕ). take k (set line held b)) (add-one held)
      ∙ take-suc-set line held b (omega arith)
      ∙ sym (take_all 2150 (take held line ++ b ∷ []) (omega (arith, length-append (take held line) (b ∷ []), length-take held line))))
      (λ l.
      ap₂ take (sym (push_full l).0) (sym (push_full l).1)
      ∙ sym (take-append-le 2150 (take held line) (b ∷ []) (omega (arith, length-take held line)) ∙ take_all 2150 (take held line) (omega (arith, length-take held line))))

-- ---- a run of bytes: what is left gives the whole

module _ (line : List ℕ) (h i x : ℕ) (s : List ℕ) where
  pub on_end : x ≡ 10 → gathering line h i (x ∷ s) ≡ (record { held = pushed h; taken = i + 1; ended = true }, pushing line h x)
  on_end z = simp (eq-eqb x 10 z)

  pub on_more : (x ≡ 10 → ⊥) → gathering line h i (x ∷ s) ≡ gathering (pushing line h x) (pushed h) (i + 1) s
  on_more z = simp (ne_eqb x 10 z)

module _ (line chunk : List ℕ) (h i : ℕ) (whole : Gathered × List ℕ) (e : gathering line h i (drop i chunk) ≡ whole) where
  pub gather_ended : (b : ℕ) → i < length chunk → b ≡ get_or chunk i 0 → b ≡ 10 → (record { held = pushed h; taken = i + 1; ended = true }, pushing line h b) ≡ whole
  gather_ended b l q z =
      ap (λ (x : ℕ). (record { held = pushed h; taken = i + 1; ended = true }, pushing line h x)) q
      ∙ sym (on_end line h i (get_or chunk i 0) (drop (suc i) chunk) (sym q ∙ z))
      ∙ sym (ap (gathering line h i) (drop-cons chunk i 0 l))
      ∙ e

  pub gather_more : (b : ℕ) → i < length chunk → b ≡ get_or chunk i 0 → (b ≡ 10 → ⊥) → gathering (pushing line h b) (pushed h) (i + 1) (drop (i + 1) chunk) ≡ whole
  gather_more b l q z =
      ap₂ (λ (x j : ℕ). gathering (pushing line h x) (pushed h) (i + 1) (drop j chunk)) q (add-one i)
      ∙ sym (on_more line h i (get_or chunk i 0) (drop (suc i) chunk) (λ w. z (q ∙ w)))
      ∙ sym (ap (gathering line h i) (drop-cons chunk i 0 l))
      ∙ e

  pub gather_none : i ≡ length chunk → (record { held = h; taken = length chunk; ended = false }, line) ≡ whole
  gather_none n =
      ap (λ (k : ℕ). (record { held = h; taken = k; ended = false }, line)) (sym n)
      ∙ sym (ap (gathering line h i) (drop_of_length-le chunk {i = i} (omega arith)))
      ∙ e

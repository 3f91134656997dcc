-- What opening accepts was sealed, and what was sealed opening accepts: block by block, the engine under the turned schedule undoes the engine.
use mathlib.Core.Bool.{true, false}
use mathlib.Core.Path.{◌≡◌, sym, ap, ap₂, subst, ◌∙◌}
use mathlib.Core.List.{List, [], ◌++◌, append-nil}
use mathlib.Core.Logic.{inl, inr}
use Prim.Native.Nat.{ℕ, suc, ◌+◌, ◌-◌, ◌*◌, ◌/◌, ◌%◌, ◌^◌, ◌<◌, ◌≤◌}
use native.Mathlib.Nat.{eq-or-lt_of_le}
use native.Mathlib.Omega.{arith}
use borrow.Author.Tests.{eq-eqb, eqb-true}
use lib.Bits.{xor_lt}
use lib.Dec.{eqb}
use lib.ListN.{length, get_or, take, drop, length-append, length-take, length-drop}
use lib.Seq.{take_all, length-take-le}
use Rattle.std.specs.Prelude.{Ok}
use Rattle.refusals.specs.Refusals.{written}
use Rattle.words.specs.Digits.{word, digits, Digits, laid}
use Rattle.words.proofs.Laws.{word_digits, word_fits, length_digits, length_laid, laid_same, laid_below, digits_append, digits_below, digits_take, digits_drop}
use Rattle.words.specs.Lists.{sum, upto}
use Rattle.words.proofs.Cases.{yes_case, both_yes, by_lt}
use Rattle.cells64.specs.Qarma64.{qarma64}
use Rattle.cells64.proofs.Lawful64.{lawful64}
use Rattle.cells.proofs.Xor.{sum_same, sum_below}
use Rattle.cipher.specs.Engine.{ScheduleBelow, turned}
use Rattle.cipher.specs.declared.Schedule.{Schedule}
use Rattle.cipher.proofs.Rounds.{turned_below}
use Rattle.cipher.proofs.Demands.{word_below, word_undone, word_redone}
use Rattle.frame.specs.Blocks.{blocks, part, filled, block, tweak, opened_purpose}
use Rattle.frame.specs.Frames.{frame_engine, tag_of, sealed_size, sealed_bytes, opened_block, opened_message, fill_right, accepted, SealedFrom}
use Rattle.frame.proofs.Laws.{whole_filled, filled_fits, same_purpose, word_at}
use Rattle.frame.proofs.Fills.{fill_none, fill_made, fill_found, fill_again, fill_off}
use Rattle.frame.proofs.Parts.{part_take, part_laid, part_behind, part_word, same_parts}

part_size : (l : List ℕ) (i : ℕ) → length (part l i) ≤ 8
part_size l i = simp length-take (omega arith)

part_bytes : {l : List ℕ} (i : ℕ) → Digits 8 l → Digits 8 (part l i)
part_bytes i h = digits_take 8 (digits_drop (i * 8) h)

-- part i of the first n bytes of some words
part_first : (n : ℕ) (f : ℕ → ℕ) (i : ℕ) → i < blocks n → part (take n (laid (blocks n) f)) i ≡ take (n - i * 8) (digits 8 8 (f i))
part_first n f i h =
    part_take n i (laid (blocks n) f)
    ∙ ap (λ (l : List ℕ). take (n - i * 8) (part l i)) (sym (append-nil (laid (blocks n) f)))
    ∙ ap (take (n - i * 8)) (part_laid (blocks n) f [] i h)

pub sealed_below : (s : Schedule) (serial : ℕ) (a m : List ℕ) → Digits 8 (sealed_bytes s serial a m)
unfolding sealed_bytes
sealed_below s serial a m = digits_append (laid_below (blocks (length m)) _) (digits_below 8 8 _)

pub sealed_length : (s : Schedule) (serial : ℕ) (a m : List ℕ) → length (sealed_bytes s serial a m) ≡ sealed_size (length m)
unfolding sealed_bytes
sealed_length s serial a m = rw (length-append, length_laid, length_digits)

pub message_length_lem : (u : Schedule) (serial n : ℕ) (c : List ℕ) → length (opened_message u serial n c) ≡ n
message_length_lem u serial n c = length-take-le n (laid (blocks n) (opened_block u serial n c)) (rw length_laid (omega arith))

-- the words of the deciphered blocks have the message's bytes, and it is written as it stands there
pub message_put : (u : Schedule) (serial n : ℕ) (c plain : List ℕ) → take (blocks n) plain ≡ upto (blocks n) (opened_block u serial n c)
    → take n (laid (blocks n) (λ i. get_or plain i 0)) ≡ opened_message u serial n c
message_put u serial n c plain e = ap (take n) (laid_same (blocks n) (word_at (blocks n) (opened_block u serial n c) plain e))

pub message_written : (u : Schedule) (serial n : ℕ) (c out : List ℕ) → (Ok n, opened_message u serial n c ++ drop n out) ≡ written (opened_message u serial n c) out
message_written u serial n c out = ap (λ (k : ℕ). (Ok k, opened_message u serial n c ++ drop k out)) (sym (message_length_lem u serial n c))

module _ {s : Schedule} (g : ScheduleBelow 4 s) (serial : ℕ) (a : List ℕ) where
  abbrev u : Schedule
  u = turned qarma64 s

  enciphered_below : (t p : ℕ) → frame_engine s t p < 2 ^ 64
  enciphered_below t p = word_below lawful64 1 7 (omega arith) g t p

  tag_below : (n total : ℕ) → tag_of s serial a n total < 2 ^ 64
  tag_below n total = xor_lt 64 _ _ (enciphered_below _ total) (sum_below 64 (blocks (length a)) _ (λ j l. enciphered_below _ _))

  -- the sealed bytes of a message of n bytes whose blocks are f 0, f 1, ..
  abbrev sealed_as : ℕ → (ℕ → ℕ) → List ℕ
  sealed_as n f = laid (blocks n) (λ i. frame_engine s (tweak (opened_purpose n i) serial i) (f i)) ++ digits 8 8 (tag_of s serial a n (sum (blocks n) f))

  sealed_as_lem : (m : List ℕ) → sealed_bytes s serial a m ≡ sealed_as (length m) (block m)
  unfolding sealed_bytes
  sealed_as_lem m =
      ap (λ (b : List ℕ). b ++ digits 8 8 (tag_of s serial a (length m) (sum (blocks (length m)) (block m))))
      (laid_same (blocks (length m)) (λ i h. ap (λ (p : ℕ). frame_engine s (tweak p serial i) (block m i)) (same_purpose m i)))

  size_as : (n : ℕ) (f : ℕ → ℕ) → length (sealed_as n f) ≡ sealed_size n
  size_as n f = rw (length-append, length_laid, length_digits)

  -- ---- what is accepted was sealed

  -- the fill is right, and the tag agrees
  pub accepted_both : (n : ℕ) (c : List ℕ) → accepted s serial a n c ≡ true
      → (fill_right n (opened_block u serial n c (n / 8)) ≡ true) × (tag_of s serial a n (sum (blocks n) (opened_block u serial n c)) ≡ word 8 (part c (blocks n)))
  unfolding accepted
  accepted_both n c t =
      let b = both_yes (fill_right n (opened_block u serial n c (n / 8))) _ t in
      (b.0, eqb-true _ _ b.1)

  module _ (n : ℕ) {c : List ℕ} (hc : Digits 8 c) (size : length c ≡ sealed_size n) (yes : accepted s serial a n c ≡ true) where
    abbrev f : ℕ → ℕ
    f = opened_block u serial n c

    abbrev m : List ℕ
    m = opened_message u serial n c

    below : (i : ℕ) → f i < 2 ^ 64
    below i = word_below lawful64 1 7 (omega arith) (turned_below lawful64 g) _ _

    block_whole : (i : ℕ) → i < blocks n → i * 8 + 8 ≤ n → block m i ≡ f i
    block_whole i h w =
        ap (λ (p : List ℕ). word 8 (filled p)) (part_first n f i h ∙ take_all (n - i * 8) (digits 8 8 (f i)) (omega arith))
        ∙ ap (word 8) (sym (whole_filled (digits 8 8 (f i)) (omega arith)))
        ∙ word_digits 8 8 (f i) (below i)

    block_last : (i : ℕ) → i < blocks n → n < i * 8 + 8 → block m i ≡ f i
    block_last i h l =
        let r : n - i * 8 ≡ n % 8 = omega arith in
        let q : n / 8 ≡ i = omega arith in
        ap (λ (p : List ℕ). word 8 (filled p)) (part_first n f i h ∙ ap (λ (k : ℕ). take k (digits 8 8 (f i))) r)
        ∙ fill_again (n % 8) (f i) (omega arith) (below i) (fill_found n (f i) (omega arith) (subst (λ (k : ℕ). fill_right n (f k) ≡ true) q (accepted_both n c yes).0))

    block_back : (i : ℕ) → i < blocks n → block m i ≡ f i
    block_back i h = by_lt n (i * 8 + 8) (block_last i h) (block_whole i h)

    part_fits : (i : ℕ) → word 8 (part c i) < 2 ^ 64
    part_fits i = word_fits (part_bytes i hc) (omega (arith, part_size c i))

    block_part : (i : ℕ) → i < blocks n → part (sealed_as n f) i ≡ part c i
    block_part i h =
        part_laid (blocks n) (λ j. frame_engine s (tweak (opened_purpose n j) serial j) (f j)) (digits 8 8 (tag_of s serial a n (sum (blocks n) f))) i h
        ∙ ap (digits 8 8) (word_redone lawful64 1 7 (omega arith) g (tweak (opened_purpose n i) serial i) (part_fits i))
        ∙ part_word i hc (omega arith)

    tag_part : (i : ℕ) → i ≡ blocks n → part (sealed_as n f) i ≡ part c i
    tag_part i e =
        ap (part (sealed_as n f)) e
        ∙ part_behind (blocks n) (λ j. frame_engine s (tweak (opened_purpose n j) serial j) (f j)) (tag_of s serial a n (sum (blocks n) f))
        ∙ ap (digits 8 8) (accepted_both n c yes).1
        ∙ part_word (blocks n) hc (omega arith)
        ∙ ap (part c) (sym e)

    part_back : (i : ℕ) → i < suc (blocks n) → part (sealed_as n f) i ≡ part c i
    part_back i h =
        elim (eq-or-lt_of_le {n = i} {m = blocks n} (omega arith)) [
          | inl e ↦ tag_part i e
          | inr l ↦ block_part i l
        ]

    blocks_back : sealed_as n (block m) ≡ sealed_as n f
    blocks_back =
        ap₂ ◌++◌ (laid_same (blocks n) (λ i h. ap (frame_engine s (tweak (opened_purpose n i) serial i)) (block_back i h)))
        (ap (λ (x : ℕ). digits 8 8 (tag_of s serial a n x)) (sum_same (blocks n) block_back))

    pub accepted_sealed : SealedFrom s serial a n c
    accepted_sealed =
        record {
          message = m;
          bytes = digits_take n (laid_below (blocks n) f);
          size = message_length_lem u serial n c;
          sealed =
              sealed_as_lem m
              ∙ ap (λ (k : ℕ). sealed_as k (block m)) (message_length_lem u serial n c)
              ∙ blocks_back
              ∙ same_parts (suc (blocks n)) (sealed_as n f) c (omega (arith, size_as n f)) (omega arith) part_back;
        }

  -- ---- what was sealed is accepted

  module _ {m : List ℕ} (hm : Digits 8 m) where
    abbrev n : ℕ
    n = length m

    abbrev c : List ℕ
    c = sealed_as n (block m)

    abbrev deciphered : ℕ → ℕ
    deciphered = opened_block u serial n c

    opened_block_lem : (i : ℕ) → i < blocks n → deciphered i ≡ block m i
    opened_block_lem i h =
        let t = tweak (opened_purpose n i) serial i in
        ap (λ (p : List ℕ). frame_engine u t (word 8 p)) (part_laid (blocks n) (λ j. frame_engine s (tweak (opened_purpose n j) serial j) (block m j)) (digits 8 8 (tag_of s serial a n (sum (blocks n) (block m)))) i h)
        ∙ ap (frame_engine u t) (word_digits 8 8 (frame_engine s t (block m i)) (enciphered_below t (block m i)))
        ∙ word_undone lawful64 1 7 (omega arith) g t (filled_fits (part_bytes i hm) (part_size m i))

    fill_yes : fill_right n (deciphered (n / 8)) ≡ true
    fill_yes =
        by_lt 0 (n % 8) (λ l. ap (fill_right n) (opened_block_lem (n / 8) (omega arith)) ∙ fill_made n (part m (n / 8)) l (simp (length-take, length-drop) (omega arith)))
        (λ l. fill_none n (deciphered (n / 8)) (omega arith))

    tag_yes : eqb (tag_of s serial a n (sum (blocks n) deciphered)) (word 8 (part c (blocks n))) ≡ true
    tag_yes =
        let w = tag_of s serial a n (sum (blocks n) (block m)) in
        eq-eqb _ _
        (ap (tag_of s serial a n) (sum_same (blocks n) opened_block_lem)
        ∙ sym (word_digits 8 8 w (tag_below n _))
        ∙ ap (word 8) (sym (part_behind (blocks n) (λ j. frame_engine s (tweak (opened_purpose n j) serial j) (block m j)) w)))

    accepted_as : accepted s serial a n c ≡ true
    unfolding accepted
    accepted_as = sym (yes_case (fill_right n (deciphered (n / 8))) _ false fill_yes) ∙ tag_yes

    message_whole : (i : ℕ) → i < blocks n → i * 8 + 8 ≤ n → take (n - i * 8) (digits 8 8 (block m i)) ≡ part m i
    message_whole i h w =
        take_all (n - i * 8) (digits 8 8 (block m i)) (omega arith)
        ∙ sym (take_all (length (part m i)) (digits 8 8 (block m i)) (simp (length-take, length-drop) (omega arith)))
        ∙ fill_off (part_bytes i hm) (part_size m i)

    message_last : (i : ℕ) → n < i * 8 + 8 → take (n - i * 8) (digits 8 8 (block m i)) ≡ part m i
    message_last i l =
        let e : n - i * 8 ≡ length (part m i) = simp (length-take, length-drop) (omega arith) in
        ap (λ (k : ℕ). take k (digits 8 8 (block m i))) e ∙ fill_off (part_bytes i hm) (part_size m i)

    message_part : (i : ℕ) → i < blocks n → part (opened_message u serial n c) i ≡ part m i
    message_part i h =
        part_first n deciphered i h
        ∙ ap (λ (w : ℕ). take (n - i * 8) (digits 8 8 w)) (opened_block_lem i h)
        ∙ by_lt n (i * 8 + 8) (message_last i) (message_whole i h)

    message_as : opened_message u serial n c ≡ m
    message_as = same_parts (blocks n) (opened_message u serial n c) m (omega (arith, message_length_lem u serial n c)) (omega arith) message_part

  pub sealed_size_lem : {n : ℕ} {c : List ℕ} (x : SealedFrom s serial a n c) → length c ≡ sealed_size n
  sealed_size_lem x = ap length (sym x.sealed) ∙ sealed_length s serial a x.message ∙ ap sealed_size x.size

  pub sealed_accepted : {n : ℕ} {c : List ℕ} (x : SealedFrom s serial a n c) → accepted s serial a n c ≡ true
  sealed_accepted x = ap₂ (accepted s serial a) (sym x.size) (sym x.sealed ∙ sealed_as_lem x.message) ∙ accepted_as x.bytes

  pub sealed_message : {n : ℕ} {c : List ℕ} (x : SealedFrom s serial a n c) → opened_message u serial n c ≡ x.message
  sealed_message x = ap₂ (opened_message u serial) (sym x.size) (sym x.sealed ∙ sealed_as_lem x.message) ∙ message_as x.bytes

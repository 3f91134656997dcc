-- A file's lines and their handles: a file that is good, and the report from the handles of two good files.
use Prim.Native.Nat.{ℕ, zero, suc, ◌+◌, ◌*◌, ◌^◌, ◌≤◌, ◌<◌}
use mathlib.Core.Path.{◌≡◌, refl, sym, ap, ap₂, subst, ◌∙◌}
use mathlib.Core.List.{List, [], ◌∷◌, map}
use native.Mathlib.Omega.{arith}
use lib.ListN.{length, drop, drop_of_length-le}
use borrow.Author.Tests.{eq-eqb, ne_eqb}
use Rattle.words.proofs.Cases.{by_lt, by_eq, le_case, gt_case}
use Rattle.std.specs.Prelude.{Ok, Err}
use Rattle.refusals.specs.declared.Refusal.TheVariants.{TooLarge}
use Rattle.line.specs.Line.{Reads, fields, refused}
use Rattle.line.specs.Reader.{serial_of, reading}
use Rattle.line.specs.Line.{Reading}
use Rattle.line.proofs.Places.{reading_reads}
use Rattle.line.proofs.Demands.{line_sizes}
use Rattle.texts.specs.Lines.{lines_of, line_length}
use Rattle.changes.specs.Report.{change, under, rising, report}
use Rattle.changes.specs.Compare.{Checked, Good, Bad, line_as, read_all, repeat_in, repeat_as, and_then, checked_lines, checked}
use Rattle.changes.specs.Workings.{serial_in, start_in, handles_from, line_at, line_in, HandleIn, Each, none, more, matching, told, reported, Walkable, handles_of, GoodHandles}
use Rattle.sorting.specs.Sorting.{insert, into, sorted}
use Rattle.sorting.proofs.Sorting.{insert_le, insert_gt, length_sorted}
use Rattle.texts.proofs.Lines.{lines_at, line_within}
use Rattle.changes.proofs.Serials.{matching_here, matching_other, Distinct, no_repeat, sorted_matching, distinct_rising}
use Rattle.changes.proofs.Handles.{fields_serial, line_length_lem}
use Rattle.changes.proofs.Walks.{rising_same}

-- ---- the lines of a file from a place on, one by one

pub data Cut (s : List ℕ) : ℕ → List (List ℕ) → Type 0 where
  end : {a : ℕ} → Cut s a []
  line : {a : ℕ} {ls : List (List ℕ)} → a < length s → Cut s (a + line_length (drop a s)) ls → Cut s a (line_at s a ∷ ls)

cut_from : (s : List ℕ) (n a : ℕ) → length s ≤ a + n → Cut s a (lines_of (drop a s))
unfolding lines_of
cut_from s zero a h = subst (Cut s a) (sym (ap lines_of (drop_of_length-le s {i = a} (omega arith)))) end
cut_from s (suc n) a h =
    by_lt a (length s)
    (λ k. subst (Cut s a) (sym (lines_at s a k)) (line k (cut_from s n (a + line_length (drop a s)) (omega (arith, (line_within s a k).0)))))
    (λ k. subst (Cut s a) (sym (ap lines_of (drop_of_length-le s {i = a} k))) end)

pub cut : (s : List ℕ) → Cut s 0 (lines_of s)
cut s = cut_from s (length s) 0 (omega arith)

pub under_here : (t : ℕ) (l : List ℕ) (ls : List (List ℕ)) → serial_of l ≡ t → under t (l ∷ ls) ≡ l ∷ under t ls
unfolding under
under_here t l ls e = simp (eq-eqb (serial_of l) t e)

pub under_other : (t : ℕ) (l : List ℕ) (ls : List (List ℕ)) → (serial_of l ≡ t → ⊥) → under t (l ∷ ls) ≡ under t ls
unfolding under
under_other t l ls e = simp (ne_eqb (serial_of l) t e)

-- a good line, and the lines behind it
record LineGood (l : List ℕ) (x : Checked) : Type 0 where
  rest : x ≡ Good
  size : 37 ≤ length l
  serial : serial_of l < 2 ^ 44

line_good : (n : ℕ) (l : List ℕ) (x : Checked) → line_as n (reading l) x ≡ Good → LineGood l x
line_good n l x e = go (reading l) (reading_reads l) e
  where
    go : (r : Reading) → Reads l r → line_as n r x ≡ Good → LineGood l x
    go r (fields f k) q =
        let s = fields_serial l r _ (fields f k) refl in
        record { rest = q; size = (line_sizes l (f, k)).0; serial = omega (arith, s.0, s.1) }
    go r (refused j p) q = let z : ◌≡◌ {A = ℕ} 0 1 = cc in absurd (omega arith)

module _ (s : List ℕ) (small : length s ≤ 65536) where
  handle_is : (l a : ℕ) → a < length s → (serial_in (l * 65536 + a) ≡ l) × (start_in (l * 65536 + a) ≡ a)
  handle_is l a h = (omega arith, omega arith)

  -- the serials of the handles
  pub cut_serials : {a : ℕ} {ls : List (List ℕ)} → Cut s a ls → map serial_in (handles_from a ls) ≡ map serial_of ls
  unfolding handles_from
  cut_serials end = refl
  cut_serials (line {a = a} {ls = ls} h c) =
      ap₂ ◌∷◌ (handle_is (serial_of (line_at s a)) a h).0
      (ap (λ (k : ℕ). map serial_in (handles_from (a + k) ls)) (line_length_lem s a h) ∙ cut_serials c)

  handle_after : {a : ℕ} (ls : List (List ℕ)) → a < length s → handles_from (a + length (line_at s a)) ls ≡ handles_from (a + line_length (drop a s)) ls
  handle_after {a} ls h = ap (λ (k : ℕ). handles_from (a + k) ls) (line_length_lem s a h)

  -- the lines of a serial
  cut_under : {a : ℕ} {ls : List (List ℕ)} (t : ℕ) → Cut s a ls → map (line_in s) (matching t (handles_from a ls)) ≡ under t ls
  unfolding handles_from matching under
  cut_under t end = refl
  cut_under t (line {a = a} {ls = ls} h c) =
      let l = line_at s a in
      let x = serial_of l * 65536 + a in
      let rest : map (line_in s) (matching t (handles_from (a + length l) ls)) ≡ under t ls = ap (λ (k : List ℕ). map (line_in s) (matching t k)) (handle_after ls h) ∙ cut_under t c in
      let k = handle_is (serial_of l) a h in
      by_eq (serial_of l) t
      (λ e.
      ap (map (line_in s)) (matching_here t x (handles_from (a + length l) ls) (k.0 ∙ e))
      ∙ ap₂ {C = List (List ℕ)} (λ (y : List ℕ) (ys : List (List ℕ)). y ∷ ys) (ap (line_at s) k.1) rest
      ∙ sym (under_here t l ls e))
      (λ e. ap (map (line_in s)) (matching_other t x (handles_from (a + length l) ls) (λ q. e (sym k.0 ∙ q))) ∙ rest ∙ sym (under_other t l ls e))

  -- each handle is one of a good line
  cut_each : {a : ℕ} {ls : List (List ℕ)} (n : ℕ) → Cut s a ls → read_all n ls ≡ Good → Each s (handles_from a ls)
  unfolding handles_from read_all
  cut_each n end e = none
  cut_each n (line {a = a} {ls = ls} h c) e =
      let l = line_at s a in
      let x = serial_of l * 65536 + a in
      let g = line_good n l (read_all (n + 1) ls) e in
      let k = handle_is (serial_of l) a h in
      more {x = x}
      (record { serial = omega (arith, g.serial); line = subst (λ (i : ℕ). 37 ≤ line_length (drop i s)) (sym k.1) (omega (arith, g.size, line_length_lem s a h)) })
      (subst (Each s) (sym (handle_after ls h)) (cut_each (n + 1) c g.rest))

-- ---- a good file

each_insert : {s : List ℕ} (x : ℕ) {l : List ℕ} → HandleIn s x → Each s l → Each s (insert x l)
unfolding insert
each_insert x k none = more k none
each_insert {s} x k (more {x = y} {xs = ys} h e) =
    by_lt y x
    (λ m. subst (Each s) (sym (insert_gt x y ys m)) (more h (each_insert x k e)))
    (λ m. subst (Each s) (sym (insert_le x y ys m)) (more k (more h e)))

each_sorted : {s a : List ℕ} → Each s a → Each s (sorted a)
unfolding into
each_sorted none = none
each_sorted (more {x = x} k e) = each_insert x k (each_sorted e)

pub length_handles : (a : ℕ) (ls : List (List ℕ)) → length (handles_from a ls) ≡ length ls
unfolding handles_from
length_handles a [] = refl
length_handles a (l ∷ ls) = ap suc (length_handles (a + length l) ls)

-- what the check of a file says of a good one
pub record FileRead (s : List ℕ) : Type 0 where
  pub small : length s ≤ 65536
  pub few : length (lines_of s) ≤ 1024
  pub read : read_all 0 (lines_of s) ≡ Good
  pub once : repeat_in [] 0 (map serial_of (lines_of s)) ≡ 0

and_good : (x y : Checked) → and_then x y ≡ Good → (x ≡ Good) × (y ≡ Good)
and_good (Ok u) y e = (refl, e)
and_good (Err f) y e = let z : ◌≡◌ {A = ℕ} 0 1 = cc in absurd (omega arith)

repeat_good : (n : ℕ) → repeat_as n ≡ Good → n ≡ 0
repeat_good zero e = refl
repeat_good (suc n) e = let z : ◌≡◌ {A = ℕ} 0 1 = cc in absurd (omega arith)

bad_good : {C : Type 0} → ◌≡◌ {A = Checked} (Bad 0 TooLarge) Good → C
bad_good e = let z : ◌≡◌ {A = ℕ} 0 1 = cc in absurd (omega arith)

module _ (s : List ℕ) where
  pub large_bytes : 65536 < length s → Bad 0 TooLarge ≡ checked s
  unfolding checked
  large_bytes h = gt_case (length s) 65536 _ _ h

  pub large_lines : length s ≤ 65536 → 1024 < length (lines_of s) → Bad 0 TooLarge ≡ checked s
  unfolding checked
  large_lines h k = gt_case (length (lines_of s)) 1024 _ _ k ∙ le_case (length s) 65536 _ _ h

  pub within_limits : length s ≤ 65536 → length (lines_of s) ≤ 1024 → checked_lines (lines_of s) ≡ checked s
  unfolding checked
  within_limits h k = le_case (length (lines_of s)) 1024 _ _ k ∙ le_case (length s) 65536 _ _ h

  pub good_file : checked s ≡ Good → FileRead s
  good_file e =
      by_lt 65536 (length s) (λ h. bad_good (large_bytes h ∙ e))
      (λ h.
      by_lt 1024 (length (lines_of s)) (λ k. bad_good (large_lines h k ∙ e))
      (λ k.
      let g = and_good (read_all 0 (lines_of s)) (repeat_as (repeat_in [] 0 (map serial_of (lines_of s)))) (within_limits h k ∙ e) in
      record { small = h; few = k; read = g.0; once = repeat_good _ g.1 }))

  module _ (g : FileRead s) where
    pub good_serials : map serial_in (handles_from 0 (lines_of s)) ≡ map serial_of (lines_of s)
    good_serials = cut_serials s g.small (cut s)

    good_distinct : Distinct (handles_from 0 (lines_of s))
    good_distinct = (no_repeat [] 0 (handles_from 0 (lines_of s)) (ap (repeat_in [] 0) good_serials ∙ g.once)).0

    good_walkable : Walkable s (handles_of s)
    unfolding handles_of
    good_walkable = record {
      small = g.small;
      few = omega (arith, length_sorted (handles_from 0 (lines_of s)), length_handles 0 (lines_of s), g.few);
      rising = distinct_rising good_distinct;
      each = each_sorted (cut_each s g.small 0 (cut s) g.read);
    }

    -- the handles of a serial are those of its lines
    good_under : (t : ℕ) → map (line_in s) (matching t (handles_of s)) ≡ under t (lines_of s)
    unfolding handles_of
    good_under t = ap (map (line_in s)) (sorted_matching t good_distinct) ∙ cut_under s g.small t (cut s)

-- handles that were loaded
pub handles_walkable : {s a : List ℕ} → GoodHandles s a → Walkable s a
handles_walkable {s} {a} k = subst (Walkable s) (sym k.made) (good_walkable s (good_file s k.good))

-- the report from the handles of two good files is that from their lines
pub handles_report : {f g a b : List ℕ} → GoodHandles f a → GoodHandles g b → reported f g a b ≡ report (lines_of f) (lines_of g)
unfolding reported report
handles_report {f} {g} {a} {b} h k =
    ap₂ (λ (x y : List ℕ). rising (told f g x y) (2 ^ 44) 0) h.made k.made
    ∙ rising_same (told f g (handles_of f) (handles_of g)) (λ (s : ℕ). change (under s (lines_of f)) (under s (lines_of g))) (2 ^ 44) 0
    (λ t l. ap₂ change (good_under f (good_file f h.good) t) (good_under g (good_file g k.good) t))

-- The handles of a file's lines: the turns of the loop that reads them, and what they stand for.
use Prim.Native.Nat.{ℕ, ◌+◌, ◌-◌, ◌*◌, ◌^◌, ◌≤◌, ◌<◌}
use mathlib.Core.Path.{◌≡◌, refl, sym, ap, ap₂, subst, ◌∙◌}
use mathlib.Core.List.{List, [], ◌∷◌, ◌++◌, append-nil}
use native.Mathlib.Numerals.{add-one}
use native.Mathlib.Omega.{arith}
use lib.ListN.{length, take, drop, set, length-set, length-drop, drop_of_length-le}
use lib.Seq.{take-suc-set, take_all, append_snoc, length-take-le}
use Rattle.std.specs.Prelude.{Ok, Err}
use Rattle.line.specs.Line.{Reading, Reads}
use Rattle.line.specs.Reader.{serial_of}
use Rattle.line.specs.declared.Fields.{Fields}
use Rattle.line.specs.declared.NotLine.{NotLine}
use Rattle.line.proofs.Inside.{fields_inside}
use Rattle.line.proofs.Places.{reads_reading}
use Rattle.words.proofs.Cases.{by_lt}
use Rattle.texts.specs.Lines.{lines_of, line_length}
use Rattle.changes.specs.Compare.{Good, line_as, read_all}
use Rattle.changes.specs.declared.Fault.{Fault}
use Rattle.changes.specs.Workings.{handles_from, line_at, HandlesRead}
use Rattle.texts.proofs.Lines.{lines_at, line_within}

-- ---- a line that was read

-- its serial
pub fields_serial : (l : List ℕ) (r : Reading) (f : Fields) → Reads l r → r ≡ Ok f → (f.serial ≡ serial_of l) × (f.serial < 2 ^ 44)
fields_serial l r f h e = let i = fields_inside l f (sym (reads_reading l r h) ∙ e) in (i.number, i.serial)

-- ---- the loop that reads the handles

-- the handles of n lines are in their places, and the next line begins at a
pub record HandlesTo (s handles : List ℕ) (a n : ℕ) : Type 0 where
  pub within : a ≤ length s
  pub small : length s ≤ 65536
  pub size : length handles ≡ length (lines_of s)
  pub short : length handles ≤ 1024
  pub count : n + length (lines_of (drop a s)) ≡ length handles
  pub answer : read_all n (lines_of (drop a s)) ≡ read_all 0 (lines_of s)
  pub made : take n handles ++ handles_from a (lines_of (drop a s)) ≡ handles_from 0 (lines_of s)

pub handles_none : (s handles : List ℕ) → length s ≤ 65536 → length handles ≡ length (lines_of s) → length handles ≤ 1024 → HandlesTo s handles 0 0
handles_none s handles h e k = record { within = omega arith; small = h; size = e; short = k; count = omega (arith, e); answer = refl; made = refl }

-- the part of a file that was read is the line
pub part_line : (s : List ℕ) (a e : ℕ) → e ≡ a + line_length (drop a s) → take (e - a) (drop a s) ≡ line_at s a
part_line s a e p = let q : e - a ≡ line_length (drop a s) = omega arith in ap (λ (k : ℕ). take k (drop a s)) q

pub line_length_lem : (s : List ℕ) (a : ℕ) → a < length s → length (line_at s a) ≡ line_length (drop a s)
line_length_lem s a h = length-take-le (line_length (drop a s)) (drop a s) (omega (arith, (line_within s a h).1, length-drop a s))

-- there is a line at a
pub handles_within : (s handles : List ℕ) (a n : ℕ) → HandlesTo s handles a n → n < length handles → a < length s
unfolding lines_of
handles_within s handles a n k h = by_lt a (length s) (λ l. l) (λ l. absurd (omega (arith, k.count, ap (λ (t : List ℕ). length (lines_of t)) (drop_of_length-le s {i = a} l))))

module _ (s handles : List ℕ) (a n e : ℕ) (k : HandlesTo s handles a n) (i : n < length handles) (p : e ≡ a + line_length (drop a s)) where
  h : a < length s
  h = handles_within s handles a n k i

  next_line : lines_of (drop a s) ≡ line_at s a ∷ lines_of (drop e s)
  next_line = lines_at s a h ∙ ap (λ (i : ℕ). line_at s a ∷ lines_of (drop i s)) (sym p)

  module _ (r : Reading) (q : Reads (take (e - a) (drop a s)) r) where
    read_so : Reads (line_at s a) r
    read_so = subst (λ (l : List ℕ). Reads l r) (part_line s a e p) q

    read_all_lem : read_all n (lines_of (drop a s)) ≡ line_as n r (read_all (n + 1) (lines_of (drop e s)))
    unfolding read_all
    read_all_lem = ap (read_all n) next_line ∙ ap (λ (x : Reading). line_as n x (read_all (n + 1) (lines_of (drop e s)))) (sym (reads_reading (line_at s a) r read_so))

    -- the line is not good
    pub handles_refused : (c : Fault) (j : NotLine) → r ≡ Err j → Err c ≡ line_as n (Err j) Good → read_all 0 (lines_of s) ≡ Err c
    handles_refused c j f bad = sym (bad ∙ sym (ap (λ (x : Reading). line_as n x (read_all (n + 1) (lines_of (drop e s)))) f) ∙ sym read_all_lem ∙ k.answer)

    -- the line is good
    module _ (f : Fields) (g : r ≡ Ok f) where
      pub serial_small : f.serial < 2 ^ 44
      serial_small = (fields_serial (line_at s a) r f read_so g).1

      pub handles_more : HandlesTo s (set handles n (f.serial * 65536 + a)) e (n + 1)
      unfolding handles_from
      handles_more =
          let handle = f.serial * 65536 + a in
          let same : handle ≡ serial_of (line_at s a) * 65536 + a = ap (λ (i : ℕ). i * 65536 + a) (fields_serial (line_at s a) r f read_so g).0 in
          let next : e ≡ a + length (line_at s a) = omega (arith, line_length_lem s a h) in
          record {
            within = omega (arith, (line_within s a h).1);
            small = k.small;
            size = length-set handles n handle ∙ k.size;
            short = omega (arith, length-set handles n handle, k.short);
            count = omega (arith, length-set handles n handle, k.count, ap length next_line);
            answer = sym (read_all_lem ∙ ap (λ (x : Reading). line_as n x (read_all (n + 1) (lines_of (drop e s)))) g) ∙ k.answer;
            made =
                ap (λ (i : ℕ). take i (set handles n handle) ++ handles_from e (lines_of (drop e s))) (add-one n)
                ∙ ap (λ (l : List ℕ). l ++ handles_from e (lines_of (drop e s))) (take-suc-set handles n handle i)
                ∙ append_snoc (take n handles) handle (handles_from e (lines_of (drop e s)))
                ∙ ap₂ (λ (x i : ℕ). take n handles ++ (x ∷ handles_from i (lines_of (drop e s)))) same next
                ∙ ap (λ (ls : List (List ℕ)). take n handles ++ handles_from a ls) (sym next_line)
                ∙ k.made;
          }

no_lines : (ls : List (List ℕ)) → length ls ≡ 0 → ls ≡ []
no_lines [] e = refl
no_lines (l ∷ ls) e = absurd (omega arith)

-- all lines are good
pub handles_all : (s handles : List ℕ) (a n : ℕ) → HandlesTo s handles a n → length handles ≤ n → HandlesRead s handles Good
unfolding read_all handles_from
handles_all s handles a n k h =
    let e : lines_of (drop a s) ≡ [] = no_lines (lines_of (drop a s)) (omega (arith, k.count)) in (
      sym k.answer ∙ ap (read_all n) e,
      sym (ap (λ (ls : List (List ℕ)). take n handles ++ handles_from a ls) e ∙ append-nil (take n handles) ∙ take_all n handles h) ∙ k.made,
    )

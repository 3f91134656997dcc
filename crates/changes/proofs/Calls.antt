-- What the calls answer: a file that is loaded, a report that is given, and the cases of a comparison.
use Prim.Native.Nat.{ℕ, zero, suc, ◌≤◌, ◌<◌}
use mathlib.Core.Path.{◌≡◌, refl, sym, ap, ap₂, ◌∙◌}
use mathlib.Core.List.{List, [], ◌++◌, map}
use native.Mathlib.Nat.{zero-add}
use native.Mathlib.Omega.{arith}
use lib.ListN.{length, take, drop, length-append}
use lib.Seq.{take_at, take-length, take-paste}
use Rattle.refusals.specs.Refusals.{Answer, giving}
use Rattle.std.specs.Prelude.{Ok, Err, Option, None, Some, MatchOption}
use Rattle.refusals.specs.declared.Refusal.TheVariants.{Room, RepeatedSerial}
use Rattle.refusals.proofs.Answers.{gives, gives_none}
use Rattle.line.specs.Reader.{serial_of}
use Rattle.sorting.specs.Sorting.{sorted}
use Rattle.texts.specs.Lines.{lines_of}
use Rattle.texts.specs.Texts.{Appended}
use Rattle.changes.specs.Compare.{Checked, Good, Bad, read_all, repeat_in, repeat_as, and_then, checked_lines, checked, refused_as, unless}
use Rattle.changes.specs.declared.Fault.{Fault}
use Rattle.changes.specs.declared.Compared.{Compared}
use Rattle.changes.specs.Workings.{some_number, serial_in, handles_from, Ordered, handles_of, LinesLoaded, FileLoaded}
use Rattle.changes.proofs.Files.{cut, cut_serials, within_limits}

-- a number that is there, or not
pub repeat_number : (n : ℕ) (r : Option ℕ) (c : Checked) → r ≡ some_number n → MatchOption r (c ≡ Good) (λ k. c ≡ Bad k RepeatedSerial) → c ≡ repeat_as n
repeat_number zero None c e h = h
repeat_number zero (Some k) c e h = cc
repeat_number (suc n) None c e h = cc
repeat_number (suc n) (Some k) c e h = let q : k ≡ suc n = cc in h ∙ ap (λ (i : ℕ). Bad i RepeatedSerial) q

pub repeat_some : (n : ℕ) → (n ≡ 0 → ⊥) → Bad n RepeatedSerial ≡ repeat_as n
repeat_some zero h = absurd (h refl)
repeat_some (suc n) h = refl

module _ (s : List ℕ) where
  -- a line is not good
  pub lines_bad : (f : Fault) → read_all 0 (lines_of s) ≡ Err f → checked_lines (lines_of s) ≡ Err f
  lines_bad f e = ap (λ (c : Checked). and_then c (repeat_as (repeat_in [] 0 (map serial_of (lines_of s))))) e

  lines_loaded : (c : Checked) (handles : List ℕ) → c ≡ checked_lines (lines_of s) → handles ≡ handles_of s → LinesLoaded s handles c
  lines_loaded (Ok u) handles e h = (sym e, h)
  lines_loaded (Err f) handles e h = sym e

  -- all lines are good
  pub lines_good : (c : Checked) (n : Option ℕ) (k handles : List ℕ) → length s ≤ 65536 → read_all 0 (lines_of s) ≡ Good → k ≡ handles_from 0 (lines_of s) → Ordered k n handles → MatchOption n (c ≡ Good) (λ i. c ≡ Bad i RepeatedSerial) → LinesLoaded s handles c
  unfolding handles_of
  lines_good c n k handles small e made o q =
      let number : n ≡ some_number (repeat_in [] 0 (map serial_of (lines_of s))) =
      o.first.number ∙ ap some_number (ap (λ (l : List ℕ). repeat_in [] 0 (map serial_in l)) made ∙ ap (repeat_in [] 0) (cut_serials s small (cut s))) in
      lines_loaded c handles
      (repeat_number _ n c number q ∙ sym (ap (λ (x : Checked). and_then x (repeat_as (repeat_in [] 0 (map serial_of (lines_of s))))) e))
      (o.list ∙ ap sorted made)

  pub file_loaded : (n : ℕ) (x r : List ℕ) → n ≡ length (lines_of s) → length s ≤ 65536 → n ≤ 1024 → length x ≡ n → checked_lines (lines_of s) ≡ Good → x ≡ handles_of s → FileLoaded s (x ++ r) (Ok n)
  file_loaded n x r e small few size good made =
      (omega (arith, length-append x r), record { good = sym (within_limits s small (omega arith)) ∙ good; made = take_at x r n size ∙ made })

  -- a refused file, and one that is not
  pub refused_file : (file : ℕ) (f : Fault) (out : List ℕ) (c : Compared) (x : Compared × List ℕ) → c ≡ refused_as file f → checked s ≡ Err f → (c, out) ≡ unless file (checked s) out x
  refused_file file f out c x e h = ap (λ (a : Compared). (a, out)) e ∙ ap (λ (a : Checked). unless file a out x) (sym h)

  pub taken_file : (file : ℕ) (out : List ℕ) (x y : Compared × List ℕ) → checked s ≡ Good → y ≡ x → y ≡ unless file (checked s) out x
  taken_file file out x y h q = q ∙ ap (λ (a : Checked). unless file a out x) (sym h)

-- ---- a report

pub no_room : (text out : List ℕ) → length out < length text → ◌≡◌ {A = Answer × List ℕ} (Err Room, out) (giving text out)
no_room text out h = gives_none text out (length text) refl h

pub gave : (text out o : List ℕ) (n : ℕ) → length text ≤ length out → Appended out 0 text o n → ◌≡◌ {A = Answer × List ℕ} (Ok n, o) (giving text out)
gave text out o n h a =
    let size : n ≡ length text = a.end ∙ zero-add (length text) in
    let bytes : o ≡ text ++ drop (length text) out =
    a.text ∙ ap₂ (λ (x : List ℕ) (k : ℕ). x ++ drop k out) (take-length text) (zero-add (length text)) in
    ap₂ (λ (k : ℕ) (x : List ℕ). (Ok k, x)) size bytes ∙ gives text out (length text) refl h

pub text_taken : (d t o : List ℕ) (n : ℕ) → Appended d 0 t o n → take n o ≡ t
text_taken d t o n a =
    ap₂ take a.end a.text ∙ take-paste d 0 t (length t) (omega arith) (omega arith) ∙ take-length t

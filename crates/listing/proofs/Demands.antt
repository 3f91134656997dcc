-- "opened is the number of lines that open by demand 2", now under a serial that no opened line before had, and with room in the list; 8 and 9; a file is good exactly when its listing has a total and refused is 0 there.
use Prim.Native.Nat.{ℕ, ◌+◌, ◌-◌, ◌≤◌, ◌<◌}
use mathlib.Core.Path.{◌≡◌, refl, sym, ap, subst, ◌∙◌}
use mathlib.Core.Bool.{true, false}
use mathlib.Core.List.{List, [], ◌∷◌, ◌++◌}
use native.Mathlib.Omega.{arith}
use lib.ListN.{length, replicate}
use Rattle.words.specs.Lists.{among}
use Rattle.words.proofs.Cases.{clash}
use Rattle.refusals.specs.Refusals.{Answer, number_of}
use Rattle.std.specs.Prelude.{Ok, Err}
use Rattle.refusals.specs.declared.Refusal.{Refusal}
use Rattle.refusals.specs.declared.Refusal.TheVariants.{RepeatedSerial, SerialListFull}
use Rattle.line.specs.Reader.{serial_of}
use Rattle.line.specs.Calls.{opening_line, WrittenFrom}
use Rattle.line.proofs.Inside.{fields_inside}
use Rattle.line.proofs.Demands.{line_opens, line_opens_only, written_reads, open_line_can}
use Rattle.listing.proofs.Bounds.{one_few}
use Rattle.listing.proofs.Used.{repeated, list_full, fresh, opened_as, refused_as_lem, Why, alone, used_before_it, no_room}
use Rattle.listing.proofs.Lines.{listed_key}
use Rattle.listing.proofs.Repeats.{used_before, before_used, not_used, unused, opened_before, refused_uses_nothing}
use Rattle.texts.specs.Lines.{lines_of}
use Rattle.listing.specs.Listing.{is_key, w0_of, k0_of, answer_of, serials_max, unless_used, answer_after, used_by, used_after, answers, one, opened_in, reported, listed, listing, used_up_to, answer_behind, UsedBefore, Opens, none, more, Once, once_none, once_more, GoodFile}

-- the message length of an opened line
abbrev count_in : Answer → ℕ
count_in (Ok k) = k
count_in (Err r) = 0

module _ (w0 k0 : ℕ) where
  -- ---- a line by itself

  -- a line that writing gives opens, with the length of its message, and has the serial that it was written with
  pub written_opens : {l : List ℕ} (x : WrittenFrom w0 k0 l) → answer_of w0 k0 l ≡ Ok (length x.message)
  unfolding answer_of
  written_opens x = ap (λ (r : Answer × List ℕ). r.0) (line_opens x (replicate 1024 0) (omega (arith, x.within.message)))

  pub written_serial : {l : List ℕ} (x : WrittenFrom w0 k0 l) → serial_of l ≡ x.serial
  written_serial {l} x = sym (fields_inside l _ (written_reads x)).number

  -- and no other opens
  pub opened_written : {l : List ℕ} (k : ℕ) → answer_of w0 k0 l ≡ Ok k → WrittenFrom w0 k0 l
  unfolding answer_of
  opened_written {l} k e = line_opens_only (replicate 1024 0) k (opening_line w0 k0 l (replicate 1024 0)).1 (λ i. (e i, (opening_line w0 k0 l (replicate 1024 0)).1))

  -- ---- a line behind others: it is reported as opened exactly when it opens by demand 2, no line before it was reported as opened under its serial, and the list is not full

  pub record OpensBehind (before : List (List ℕ)) (l : List ℕ) (k : ℕ) : Type 0 where
    pub from : WrittenFrom w0 k0 l
    pub size : length from.message ≡ k
    pub unused : UsedBefore w0 k0 from.serial before → ⊥
    pub room : opened_in (answers w0 k0 [] before) < serials_max

  module _ (before : List (List ℕ)) (l : List ℕ) (k : ℕ) where
    pub opens_behind : OpensBehind before l k → answer_behind w0 k0 before l ≡ Ok k
    opens_behind o =
        let used = used_up_to w0 k0 [] before in
        ap (unless_used used (serial_of l)) (written_opens o.from)
        ∙ fresh used (serial_of l) (length o.from.message) (ap (λ (x : ℕ). among x used) (written_serial o.from) ∙ not_used w0 k0 o.from.serial before o.unused) (omega (arith, o.room, opened_before w0 k0 before))
        ∙ ap Ok o.size

    pub opened_behind : answer_behind w0 k0 before l ≡ Ok k → OpensBehind before l k
    opened_behind e =
        let used = used_up_to w0 k0 [] before in
        let o = opened_as used (serial_of l) (answer_of w0 k0 l) k e in
        let x = opened_written k o.alone in
        record {
          from = x;
          size = ap count_in (sym (written_opens x) ∙ o.alone);
          unused = unused w0 k0 x.serial before (ap (λ (y : ℕ). among y used) (sym (written_serial x)) ∙ o.unused);
          room = omega (arith, o.room, opened_before w0 k0 before);
        }

  -- a refused line stands in no later line's way, not even in that of one with its serial
  pub opens_later : (before : List (List ℕ)) (l : List ℕ) (r : Refusal) → answer_behind w0 k0 before l ≡ Err r → (between : List (List ℕ)) (m : List ℕ) (k : ℕ)
      → OpensBehind (before ++ between) m k → answer_behind w0 k0 (before ++ (l ∷ between)) m ≡ Ok k
  opens_later before l r e between m k o = refused_uses_nothing w0 k0 before l r e between m ∙ opens_behind (before ++ between) m k o

  -- ---- 8 and 9: exactly for a line that opens by demand 2, 8 where a line before it was reported as opened under its serial, 9 where none was and the list is full

  pub record RepeatsBehind (before : List (List ℕ)) (l : List ℕ) : Type 0 where
    pub from : WrittenFrom w0 k0 l
    pub used : UsedBefore w0 k0 from.serial before

  pub record FullBehind (before : List (List ℕ)) (l : List ℕ) : Type 0 where
    pub from : WrittenFrom w0 k0 l
    pub unused : UsedBefore w0 k0 from.serial before → ⊥
    pub full : serials_max ≤ opened_in (answers w0 k0 [] before)

  -- by itself a line gets neither
  not_alone : (l : List ℕ) (r : Refusal) → answer_of w0 k0 l ≡ Err r → among (number_of r) (7 ∷ 5 ∷ 6 ∷ []) ≡ true
  unfolding answer_of
  not_alone l r e = let left = (opening_line w0 k0 l (replicate 1024 0)).1 in ((open_line_can w0 k0 l (replicate 1024 0)).only r left (λ i. (e i, left))).0

  module _ (before : List (List ℕ)) (l : List ℕ) where
    abbrev used : List ℕ
    used = used_up_to w0 k0 [] before

    -- whether the serial is used, seen from the line and from what it was written with
    same_serial : (x : WrittenFrom w0 k0 l) → among (serial_of l) used ≡ among x.serial used
    same_serial x = ap (λ (y : ℕ). among y used) (written_serial x)

    as_written : (x : WrittenFrom w0 k0 l) → answer_behind w0 k0 before l ≡ unless_used used (serial_of l) (Ok (length x.message))
    as_written x = ap (unless_used used (serial_of l)) (written_opens x)

    pub repeats_behind : RepeatsBehind before l → answer_behind w0 k0 before l ≡ Err RepeatedSerial
    repeats_behind r = as_written r.from ∙ repeated used (serial_of l) _ (same_serial r.from ∙ before_used w0 k0 r.from.serial before r.used)

    pub full_behind : FullBehind before l → answer_behind w0 k0 before l ≡ Err SerialListFull
    full_behind f =
        as_written f.from
        ∙ list_full used (serial_of l) _ (same_serial f.from ∙ not_used w0 k0 f.from.serial before f.unused) (omega (arith, f.full, opened_before w0 k0 before))

    pub repeated_behind : answer_behind w0 k0 before l ≡ Err RepeatedSerial → RepeatsBehind before l
    repeated_behind e = go (refused_as_lem used (serial_of l) (answer_of w0 k0 l) RepeatedSerial e)
      where
        go : Why used (serial_of l) (answer_of w0 k0 l) RepeatedSerial → RepeatsBehind before l
        go (alone a) = absurd (clash false (not_alone l RepeatedSerial a) refl)
        go (used_before_it k w y q) = let x = opened_written k w in record { from = x; used = used_before w0 k0 x.serial before (sym (same_serial x) ∙ y) }
        go (no_room k w n h q) = absurd (omega (arith, ap number_of q))

    pub filled_behind : answer_behind w0 k0 before l ≡ Err SerialListFull → FullBehind before l
    filled_behind e = go (refused_as_lem used (serial_of l) (answer_of w0 k0 l) SerialListFull e)
      where
        go : Why used (serial_of l) (answer_of w0 k0 l) SerialListFull → FullBehind before l
        go (alone a) = absurd (clash false (not_alone l SerialListFull a) refl)
        go (used_before_it k w y q) = absurd (omega (arith, ap number_of q))
        go (no_room k w n h q) =
            let x = opened_written k w in
            record { from = x; unused = unused w0 k0 x.serial before (sym (same_serial x) ∙ n); full = omega (arith, h, opened_before w0 k0 before) }

  -- ---- all lines

  wrote_one : (a : Answer) → one a ≡ 1 → (k : ℕ) × (a ≡ Ok k)
  wrote_one (Ok k) e = (k, refl)
  wrote_one (Err r) e = absurd (omega (arith, e))

  pub opened_few : (given : List Answer) → opened_in given ≤ length given
  opened_few [] = omega arith
  opened_few (a ∷ given) = omega (arith, opened_few given, one_few a)

  refused_in : {used next : List ℕ} → used ≡ next → (ls : List (List ℕ)) → length (answers w0 k0 used ls) - opened_in (answers w0 k0 used ls) ≡ 0 → length (answers w0 k0 next ls) - opened_in (answers w0 k0 next ls) ≡ 0
  refused_in e ls h = subst (λ (u : List ℕ). length (answers w0 k0 u ls) - opened_in (answers w0 k0 u ls) ≡ 0) e h

  opens_refuses_none : (used : List ℕ) (ls : List (List ℕ)) → Opens w0 k0 ls → Once used ls → length used + length ls ≤ serials_max
      → length (answers w0 k0 used ls) - opened_in (answers w0 k0 used ls) ≡ 0
  opens_refuses_none used [] none once_none h = refl
  opens_refuses_none used (l ∷ ls) (more k e g) (once_more f o) h =
      let a : answer_after w0 k0 used l ≡ Ok k = ap (unless_used used (serial_of l)) e ∙ fresh used (serial_of l) k f (omega arith) in
      let rest = refused_in (sym (ap (used_by used (serial_of l)) a)) ls (opens_refuses_none (serial_of l ∷ used) ls g o (omega arith)) in
      omega (arith, rest, ap one a, opened_few (answers w0 k0 (used_after w0 k0 used l) ls))

  none_refused_opens : (used : List ℕ) (ls : List (List ℕ)) → length used ≤ serials_max → length (answers w0 k0 used ls) - opened_in (answers w0 k0 used ls) ≡ 0
      → Opens w0 k0 ls × Once used ls × (length used + length ls ≤ serials_max)
  none_refused_opens used [] h e = (none, once_none, omega arith)
  none_refused_opens used (l ∷ ls) h e =
      let few = opened_few (answers w0 k0 (used_after w0 k0 used l) ls) in
      let w = wrote_one (answer_after w0 k0 used l) (omega (arith, e, few, one_few (answer_after w0 k0 used l))) in
      let o = opened_as used (serial_of l) (answer_of w0 k0 l) w.0 w.1 in
      let rest = refused_in (ap (used_by used (serial_of l)) w.1) ls (omega (arith, e, few, one_few (answer_after w0 k0 used l))) in
      let r = none_refused_opens (serial_of l ∷ used) ls (omega (arith, o.room)) rest in
      (more w.0 o.alone r.0, once_more o.unused r.1, omega (arith, r.2))

-- ---- a file is good exactly when its listing has a total, and refused is 0 there

module _ (s l : List ℕ) (ls : List (List ℕ)) (cut : lines_of s ≡ l ∷ ls) where
  abbrev given : List Answer
  given = answers (w0_of l) (k0_of l) [] ls

  pub has_total : is_key l ≡ true → listing s ≡ reported given
  has_total e = ap listed cut ∙ listed_key l ls e

  pub good_refuses_none : GoodFile s → (is_key l ≡ true) × (length given - opened_in given ≡ 0)
  good_refuses_none g =
      let e : l ∷ ls ≡ g.key ∷ g.lines = sym cut ∙ g.cut in
      let first : l ≡ g.key = cc in
      let rest : ls ≡ g.lines = cc in
      (ap is_key first ∙ g.right, opens_refuses_none (w0_of l) (k0_of l) [] ls (rw (first, rest) g.opens) (rw rest g.once) (omega (arith, ap length rest, g.few)))

  pub none_refused_good : is_key l ≡ true → length given - opened_in given ≡ 0 → GoodFile s
  none_refused_good e h =
      let o = none_refused_opens (w0_of l) (k0_of l) [] ls (omega arith) h in
      record { key = l; lines = ls; cut = cut; right = e; opens = o.0; once = o.1; few = omega (arith, o.2) }

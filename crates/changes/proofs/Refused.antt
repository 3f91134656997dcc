-- Demand 1 for a comparison: which refusals it can give, whose they are, and that each leaves the memory as it was.
use Prim.Native.Nat.{ℕ, suc, ◌+◌, ◌*◌, ◌/◌, ◌%◌, ◌^◌, ◌≤◌, ◌<◌}
use mathlib.Core.Logic.{◌⊎◌, inl, inr}
use mathlib.Core.Bool.{true, false}
use mathlib.Core.Path.{◌≡◌, refl, sym, ap, ap₂, subst, ◌∙◌}
use mathlib.Core.List.{List, [], ◌∷◌, ◌++◌, map, append_assoc, append-nil}
use native.Mathlib.Nat.{zero-add, add-zero}
use native.Mathlib.Omega.{arith}
use lib.ListN.{length}
use Rattle.words.specs.Lists.{among}
use Rattle.words.proofs.Cases.{by_lt, yes_or_no}
use Rattle.refusals.specs.Refusals.{Answer, number_of, place_of, giving}
use Rattle.std.specs.Prelude.{Ok, Err}
use Rattle.refusals.specs.declared.Refusal.{Refusal}
use Rattle.refusals.specs.declared.Refusal.TheVariants.{Line}
use Rattle.refusals.proofs.Answers.{Can, can_refused, can_give, gives, gives_none}
use Rattle.line.specs.Line.{GoodLine, Place, Reading, not_line, fields_of, Reads, fields, refused}
use Rattle.line.specs.Reader.{serial_of, reading}
use Rattle.line.proofs.Places.{reading_reads, reads_reading}
use Rattle.texts.specs.Lines.{lines_of}
use Rattle.changes.specs.Report.{report}
use Rattle.changes.specs.Compare.{Checked, Good, Bad, line_as, read_all, repeat_in, repeat_as, and_then, checked, unless, of_neither, reporting, comparing, returned_as}
use Rattle.changes.specs.Files.{AllGood, none, more, Once, once_none, once_more, Within, GoodFile, Refuses, long, many, line, serial, Judged, good, bad}
use Rattle.changes.specs.declared.Compared.{Compared}
use Rattle.changes.specs.declared.Fault.{Fault}
use Rattle.changes.proofs.Serials.{repeat_here, repeat_later}
use Rattle.changes.proofs.Calls.{repeat_some}
use Rattle.changes.proofs.Files.{large_bytes, large_lines, within_limits}

-- the answer and the memory, without the file and the line
abbrev pub answered : Compared × List ℕ → Answer × List ℕ
answered x = (x.0.answer, x.1)

-- ---- whose refusal it is: "first file before second", "last of all 5"

module _ (first second out : List ℕ) where
  pub first_refused : (n : ℕ) (r : Refusal) → checked first ≡ Bad n r → comparing first second out ≡ (record { answer = Err r; file = 1; line = n }, out)
  unfolding comparing
  first_refused n r e = ap (λ (c : Checked). unless 1 c out (unless 2 (checked second) out (reporting first second out))) e

  pub second_refused : (n : ℕ) (r : Refusal) → checked first ≡ Good → checked second ≡ Bad n r → comparing first second out ≡ (record { answer = Err r; file = 2; line = n }, out)
  unfolding comparing
  second_refused n r g e =
      ap (λ (c : Checked). unless 1 c out (unless 2 (checked second) out (reporting first second out))) g
      ∙ ap (λ (c : Checked). unless 2 c out (reporting first second out)) e

  pub both_good : checked first ≡ Good → checked second ≡ Good → comparing first second out ≡ of_neither (giving (report (lines_of first) (lines_of second)) out)
  unfolding comparing reporting
  both_good g h =
      ap (λ (c : Checked). unless 1 c out (unless 2 (checked second) out (reporting first second out))) g
      ∙ ap (λ (c : Checked). unless 2 c out (reporting first second out)) h

-- ---- what a file by itself is refused for

-- a good line, and one that is none
line_reads : (n : ℕ) (l : List ℕ) (x : Checked) → GoodLine l → line_as n (reading l) x ≡ x
line_reads n l x (f, k) = ap (λ (r : Reading). line_as n r x) (sym (reads_reading l (fields_of f) (fields f k)))

line_refuses : (n : ℕ) (l : List ℕ) (x : Checked) (k : ℕ) → Place l k → line_as n (reading l) x ≡ Bad (n + 1) (Line k)
line_refuses n l x k p = ap (λ (r : Reading). line_as n r x) (sym (reads_reading l (not_line k) (refused k p)))

lines_upto : (n : ℕ) {before : List (List ℕ)} (rest : List (List ℕ)) → AllGood before → read_all n (before ++ rest) ≡ read_all (n + length before) rest
unfolding read_all
lines_upto n rest none = ap (λ (m : ℕ). read_all m rest) (sym (add-zero n))
lines_upto n rest (more {l = l} {ls = ls} g h) =
    let e : n + 1 + length ls ≡ n + suc (length ls) = omega arith in
    line_reads n l (read_all (n + 1) (ls ++ rest)) g ∙ lines_upto (n + 1) rest h ∙ ap (λ (m : ℕ). read_all m rest) e

pub lines_read : (n : ℕ) {ls : List (List ℕ)} → AllGood ls → read_all n ls ≡ Good
unfolding read_all
lines_read n none = refl
lines_read n (more {l = l} {ls = ls} g h) = line_reads n l (read_all (n + 1) ls) g ∙ lines_read (n + 1) h

read_lines : (n : ℕ) (ls : List (List ℕ)) → read_all n ls ≡ Good → AllGood ls
unfolding read_all
read_lines n [] e = none
read_lines n (l ∷ ls) e = go (read_lines (n + 1) ls) (reading l) (reading_reads l) e
  where
    go : (read_all (n + 1) ls ≡ Good → AllGood ls) → (r : Reading) → Reads l r → line_as n r (read_all (n + 1) ls) ≡ Good → AllGood (l ∷ ls)
    go h r (fields f k) q = more (f, k) (h q)
    go h r (refused k p) q = let z : ◌≡◌ {A = ℕ} 0 1 = cc in absurd (omega arith)

-- the first of the lines behind the first n that is not good
record BadLine (n : ℕ) (ls : List (List ℕ)) (m : ℕ) (r : Refusal) : Type 0 where
  before : List (List ℕ)
  line : List ℕ
  after : List (List ℕ)
  at : ℕ
  cut : ls ≡ before ++ (line ∷ after)
  good : AllGood before
  wrong : Place line at
  number : m ≡ n + (length before + 1)
  is : r ≡ Line at

bad_line : (n : ℕ) (ls : List (List ℕ)) (m : ℕ) (r : Refusal) → read_all n ls ≡ Bad m r → BadLine n ls m r
unfolding read_all
bad_line n [] m r e = let z : ◌≡◌ {A = ℕ} 0 1 = cc in absurd (omega arith)
bad_line n (l ∷ ls) m r e = go (bad_line (n + 1) ls m r) (reading l) (reading_reads l) e
  where
    go : (read_all (n + 1) ls ≡ Bad m r → BadLine (n + 1) ls m r) → (x : Reading) → Reads l x → line_as n x (read_all (n + 1) ls) ≡ Bad m r → BadLine n (l ∷ ls) m r
    go h x (fields f k) q =
        let b = h q in
        record {
          before = l ∷ b.before;
          line = b.line;
          after = b.after;
          at = b.at;
          cut = ap (λ (t : List (List ℕ)). l ∷ t) b.cut;
          good = more (f, k) b.good;
          wrong = b.wrong;
          number = omega (arith, b.number);
          is = b.is;
        }
    go h x (refused k p) q =
        let b : ◌≡◌ {A = Fault} (record { line = n + 1; refusal = Line k }) (record { line = m; refusal = r }) = cc in
        let a : n + 1 ≡ m = ap (λ (f : Fault). f.line) b in
        let c : Line k ≡ r = ap (λ (f : Fault). f.refusal) b in
        record { before = []; line = l; after = ls; at = k; cut = refl; good = none; wrong = p; number = sym a; is = sym c }

-- serials that come once, and the first that does not
once_upto : (n : ℕ) {seen : List ℕ} {before : List (List ℕ)} (rest : List (List ℕ)) → Once seen before
    → repeat_in seen n (map serial_of (before ++ rest)) ≡ repeat_in (seen ++ map serial_of before) (n + length before) (map serial_of rest)
once_upto n {seen} rest once_none = ap₂ (λ (m : ℕ) (l : List ℕ). repeat_in l m (map serial_of rest)) (sym (add-zero n)) (sym (append-nil seen))
once_upto n {seen} rest (once_more {l = l} {ls = ls} new h) =
    let e : n + 1 + length ls ≡ n + suc (length ls) = omega arith in
    repeat_later seen n (serial_of l) (map serial_of (ls ++ rest)) new
    ∙ once_upto (n + 1) rest h
    ∙ ap₂ (λ (m : ℕ) (s : List ℕ). repeat_in s m (map serial_of rest)) e (append_assoc seen (serial_of l ∷ []) (map serial_of ls))

once_none_repeats : (n : ℕ) {seen : List ℕ} {ls : List (List ℕ)} → Once seen ls → repeat_in seen n (map serial_of ls) ≡ 0
unfolding repeat_in
once_none_repeats n once_none = refl
once_none_repeats n {seen} (once_more {l = l} {ls = ls} new h) = repeat_later seen n (serial_of l) (map serial_of ls) new ∙ once_none_repeats (n + 1) h

-- the first of the lines behind the first n whose serial came before; these are the serials seen
record BadSerial (seen : List ℕ) (n : ℕ) (ls : List (List ℕ)) (m : ℕ) : Type 0 where
  before : List (List ℕ)
  line : List ℕ
  after : List (List ℕ)
  cut : ls ≡ before ++ (line ∷ after)
  once : Once seen before
  came : among (serial_of line) (seen ++ map serial_of before) ≡ true
  number : m ≡ n + (length before + 1)

repeats_or_once : (seen : List ℕ) (n : ℕ) (ls : List (List ℕ)) → ((repeat_in seen n (map serial_of ls) ≡ 0) × Once seen ls) ⊎ BadSerial seen n ls (repeat_in seen n (map serial_of ls))
unfolding repeat_in
repeats_or_once seen n [] = inl (refl, once_none)
repeats_or_once seen n (l ∷ ls) = go (yes_or_no (among (serial_of l) seen)) (repeats_or_once (seen ++ (serial_of l ∷ [])) (n + 1) ls)
  where
    whole : ℕ
    whole = repeat_in seen n (map serial_of (l ∷ ls))

    rest : ℕ
    rest = repeat_in (seen ++ (serial_of l ∷ [])) (n + 1) (map serial_of ls)

    go : (among (serial_of l) seen ≡ true) ⊎ (among (serial_of l) seen ≡ false) → ((rest ≡ 0) × Once (seen ++ (serial_of l ∷ [])) ls) ⊎ BadSerial (seen ++ (serial_of l ∷ [])) (n + 1) ls rest
        → ((whole ≡ 0) × Once seen (l ∷ ls)) ⊎ BadSerial seen n (l ∷ ls) whole
    go (inl e) r =
        inr (record {
          before = [];
          line = l;
          after = ls;
          cut = refl;
          once = once_none;
          came = ap (among (serial_of l)) (append-nil seen) ∙ e;
          number = repeat_here seen n (serial_of l) (map serial_of ls) e;
        })
    go (inr e) (inl (z, o)) = inl (repeat_later seen n (serial_of l) (map serial_of ls) e ∙ z, once_more e o)
    go (inr e) (inr b) =
        let later : whole ≡ rest = repeat_later seen n (serial_of l) (map serial_of ls) e in
        inr (record {
          before = l ∷ b.before;
          line = b.line;
          after = b.after;
          cut = ap (λ (t : List (List ℕ)). l ∷ t) b.cut;
          once = once_more e b.once;
          came = ap (among (serial_of b.line)) (sym (append_assoc seen (serial_of l ∷ []) (map serial_of b.before))) ∙ b.came;
          number = omega (arith, later, b.number);
        })

module _ (s : List ℕ) where
  lines_checked : Within s → checked s ≡ and_then (read_all 0 (lines_of s)) (repeat_as (repeat_in [] 0 (map serial_of (lines_of s))))
  lines_checked w = sym (within_limits s w.bytes w.lines)

  -- "Each file must be all good lines with no repeated serial"
  good_checked : GoodFile s → checked s ≡ Good
  good_checked g =
      lines_checked g.within
      ∙ ap (λ (c : Checked). and_then c (repeat_as (repeat_in [] 0 (map serial_of (lines_of s))))) (lines_read 0 g.lines)
      ∙ ap repeat_as (once_none_repeats 0 g.once)

  -- each refusal comes when its condition holds
  refuses_checked : {n : ℕ} {r : Refusal} → Refuses s n r → checked s ≡ Bad n r
  unfolding read_all
  refuses_checked (long h) = sym (large_bytes s h)
  refuses_checked (many h) = by_lt 65536 (length s) (λ k. sym (large_bytes s k)) (λ k. sym (large_lines s k h))
  refuses_checked (line w before l after k e g p) =
      lines_checked w
      ∙ ap (λ (c : Checked). and_then c (repeat_as (repeat_in [] 0 (map serial_of (lines_of s)))))
      (ap (read_all 0) e ∙ lines_upto 0 (l ∷ after) g ∙ line_refuses (0 + length before) l (read_all (0 + length before + 1) after) k p ∙ ap (λ (m : ℕ). Bad (m + 1) (Line k)) (zero-add (length before)))
  refuses_checked (serial w g before l after e o h) =
      let number : repeat_in [] 0 (map serial_of (lines_of s)) ≡ length before + 1 =
      ap (λ (ls : List (List ℕ)). repeat_in [] 0 (map serial_of ls)) e ∙ once_upto 0 (l ∷ after) o ∙ repeat_here (map serial_of before) (0 + length before) (serial_of l) (map serial_of after) h ∙ omega arith in
      lines_checked w
      ∙ ap₂ (λ (c : Checked) (m : ℕ). and_then c (repeat_as m)) (lines_read 0 g) number
      ∙ sym (repeat_some (length before + 1) (λ z. absurd (omega arith)))

  lines_judged : Within s → (c : Checked) → read_all 0 (lines_of s) ≡ c → ((repeat_in [] 0 (map serial_of (lines_of s)) ≡ 0) × Once [] (lines_of s)) ⊎ BadSerial [] 0 (lines_of s) (repeat_in [] 0 (map serial_of (lines_of s)))
      → Judged s (and_then c (repeat_as (repeat_in [] 0 (map serial_of (lines_of s)))))
  lines_judged w (Ok u) e (inl (z, o)) =
      subst (λ (m : ℕ). Judged s (repeat_as m)) (sym z) (good (record { within = w; lines = read_lines 0 (lines_of s) e; once = o }))
  lines_judged w (Ok u) e (inr b) =
      let m : repeat_in [] 0 (map serial_of (lines_of s)) ≡ length b.before + 1 = b.number ∙ omega arith in
      subst (Judged s) (repeat_some (length b.before + 1) (λ z. absurd (omega arith)) ∙ ap repeat_as (sym m))
      (bad (serial w (read_lines 0 (lines_of s) e) b.before b.line b.after b.cut b.once b.came))
  lines_judged w (Err f) e x =
      let b = bad_line 0 (lines_of s) f.line f.refusal e in
      let n : length b.before + 1 ≡ f.line = omega (arith, b.number) in
      subst (Judged s) (ap₂ (λ (i : ℕ) (q : Refusal). Bad i q) n (sym b.is)) (bad (line w b.before b.line b.after b.at b.cut b.good b.wrong))

  -- a file is good or refused, as request 5 says, and this is what is computed
  pub judged : Judged s (checked s)
  judged =
      by_lt 65536 (length s)
      (λ h. subst (Judged s) (large_bytes s h) (bad (long h)))
      (λ h.
      by_lt 1024 (length (lines_of s))
      (λ k. subst (Judged s) (large_lines s h k) (bad (many k)))
      (λ k.
      let w : Within s = record { bytes = h; lines = k } in
      subst (Judged s) (sym (lines_checked w)) (lines_judged w (read_all 0 (lines_of s)) refl (repeats_or_once [] 0 (lines_of s)))))

  -- and nothing else is
  pub judged_one : (c : Checked) → Judged s c → c ≡ checked s
  judged_one c (good g) = sym (good_checked g)
  judged_one c (bad h) = sym (refuses_checked h)

-- ---- which refusals a comparison can give, and that each leaves the memory as it was

judged_among : {s : List ℕ} {n : ℕ} {r : Refusal} → Refuses s n r → among (number_of r) (11 ∷ 7 ∷ 8 ∷ 5 ∷ []) ≡ true
judged_among (long h) = refl
judged_among (many h) = refl
judged_among (line w before l after k e g p) = refl
judged_among (serial w g before l after e o h) = refl

can_file : (s out : List ℕ) (file : ℕ) (c : Checked) (x : Compared × List ℕ) → Judged s c → Can (11 ∷ 7 ∷ 8 ∷ 5 ∷ []) out (answered x) → Can (11 ∷ 7 ∷ 8 ∷ 5 ∷ []) out (answered (unless file c out x))
can_file s out file c x (good g) k = k
can_file s out file c x (bad {r = r} h) k = can_refused r (judged_among h)

pub compare_can : (first second out : List ℕ) → Can (11 ∷ 7 ∷ 8 ∷ 5 ∷ []) out (answered (comparing first second out))
unfolding comparing reporting
compare_can first second out =
    can_file first out 1 (checked first) _ (judged first)
    (can_file second out 2 (checked second) _ (judged second) (can_give (report (lines_of first) (lines_of second)) refl))

-- ---- how many bytes were written is no more than there was room for

module _ (out : List ℕ) where
  abbrev Fits : Compared × List ℕ → Type 0
  Fits x = (n : ℕ) → x.0.answer ≡ Ok n → n ≤ length out

  refused_within : (r : Refusal) (n : ℕ) → ◌≡◌ {A = Answer} (Err r) (Ok n) → n ≤ length out
  refused_within r n e = let z : ◌≡◌ {A = ℕ} 0 1 = cc in absurd (omega arith)

  unless_within : (file : ℕ) (c : Checked) (x : Compared × List ℕ) → Fits x → Fits (unless file c out x)
  unless_within file (Ok u) x h = h
  unless_within file (Err f) x h = λ n e. refused_within f.refusal n e

  wrote_same : (k n : ℕ) → ◌≡◌ {A = Answer} (Ok k) (Ok n) → k ≡ n
  wrote_same k n e = cc

  given_within : (bytes : List ℕ) → Fits (of_neither (giving bytes out))
  given_within bytes n e =
      by_lt (length out) (length bytes)
      (λ h. refused_within _ n (ap (λ (x : Answer × List ℕ). x.0) (gives_none bytes out (length bytes) refl h) ∙ e))
      (λ h. let k : length bytes ≡ n = wrote_same _ n (ap (λ (x : Answer × List ℕ). x.0) (gives bytes out (length bytes) refl h) ∙ e) in omega arith)

pub wrote_within : (first second out : List ℕ) (n : ℕ) → (comparing first second out).0.answer ≡ Ok n → n ≤ length out
unfolding comparing reporting
wrote_within first second out = unless_within out 1 (checked first) _ (unless_within out 2 (checked second) _ (given_within out (report (lines_of first) (lines_of second))))

-- ---- what `kk_refusal`, `kk_file`, `kk_line` and `kk_count` of the header take out of the returned number

parts : (n p f l : ℕ) → p < 2 ^ 32 → f < 2 ^ 8 → l < 2 ^ 16
    → ((n * 2 ^ 56 + p + (f * 2 ^ 48 + l * 2 ^ 32)) / 2 ^ 56 ≡ n) × ((n * 2 ^ 56 + p + (f * 2 ^ 48 + l * 2 ^ 32)) / 2 ^ 48 % 2 ^ 8 ≡ f) × ((n * 2 ^ 56 + p + (f * 2 ^ 48 + l * 2 ^ 32)) / 2 ^ 32 % 2 ^ 16 ≡ l) × ((n * 2 ^ 56 + p + (f * 2 ^ 48 + l * 2 ^ 32)) % 2 ^ 32 ≡ p)
parts n p f l a b c = (omega arith, omega arith, omega arith, omega arith)

pub parts_shown : (r : Refusal) (f l : ℕ) → place_of r < 2 ^ 32 → f < 2 ^ 8 → l < 2 ^ 16
    → (returned_as (record { answer = Err r; file = f; line = l }) / 2 ^ 56 ≡ number_of r) × (returned_as (record { answer = Err r; file = f; line = l }) / 2 ^ 48 % 2 ^ 8 ≡ f) × (returned_as (record { answer = Err r; file = f; line = l }) / 2 ^ 32 % 2 ^ 16 ≡ l) × (returned_as (record { answer = Err r; file = f; line = l }) % 2 ^ 32 ≡ place_of r)
parts_shown r f l a b c = parts (number_of r) (place_of r) f l a b c

pub wrote_shown : (n : ℕ) → n < 2 ^ 32 → (returned_as (record { answer = Ok n; file = 0; line = 0 }) / 2 ^ 32 ≡ 0) × (returned_as (record { answer = Ok n; file = 0; line = 0 }) % 2 ^ 32 ≡ n)
wrote_shown n h = (omega arith, omega arith)

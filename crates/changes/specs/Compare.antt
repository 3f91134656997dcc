-- Request 5: what comparing two files answers, and what it leaves; refusals, first file before second.
use Rattle.std.specs.Prelude.{ℕ, zero, suc, ◌+◌, ◌*◌, ◌^◌, cond, List, [], ◌∷◌, ◌++◌, map, length, Result, Ok, Err, ⊤}
use Rattle.words.specs.Cases.{if_le}
use Rattle.words.specs.Lists.{among}
use Rattle.refusals.specs.Refusals.{Answer, returned_of, giving}
use Rattle.refusals.specs.declared.Refusal.{Refusal}
use Rattle.refusals.specs.declared.Refusal.TheVariants.{Line, RepeatedSerial, TooLarge}
use Rattle.line.specs.Reader.{serial_of, reading}
use Rattle.line.specs.Line.{Reading}
use Rattle.texts.specs.Lines.{lines_of}
use Rattle.changes.specs.Report.{report}
use Rattle.changes.specs.declared.Fault.{Fault}
use Rattle.changes.specs.declared.Compared.{Compared}

-- "each at most 1,024 lines and 64 KiB"
abbrev pub lines_max : ℕ
lines_max = 1024

abbrev pub file_max : ℕ
file_max = 65536

-- what is said of a file by itself: it is good, or a refusal, with the line's number
abbrev pub Checked : Type 0
Checked = Result ⊤ Fault

abbrev pub Good : Checked
Good = Ok tt

abbrev pub Bad : ℕ → Refusal → Checked
Bad n r = Err (record { line = n; refusal = r })

-- "7 with line and place": line n + 1 reads so, or else what is said of the lines behind it
abbrev pub line_as : ℕ → Reading → Checked → Checked
line_as n (Ok f) x = x
line_as n (Err e) x = Bad (n + 1) (Line e.place)

-- the first of the lines behind the first n that is not good
unfoldable pub read_all : ℕ → List (List ℕ) → Checked
read_all n [] = Good
read_all n (l ∷ ls) = line_as n (reading l) (read_all (n + 1) ls)

-- the number of the first line whose serial came before, or 0; n lines came, with the serials seen
unfoldable pub repeat_in : List ℕ → ℕ → List ℕ → ℕ
repeat_in seen n [] = 0
repeat_in seen n (x ∷ xs) = cond (among x seen) (n + 1) (repeat_in (seen ++ (x ∷ [])) (n + 1) xs)

-- "then 8"
abbrev pub repeat_as : ℕ → Checked
repeat_as zero = Good
repeat_as (suc n) = Bad (suc n) RepeatedSerial

-- what comes after a check that found nothing
abbrev pub and_then : Checked → Checked → Checked
and_then (Ok u) x = x
and_then (Err f) x = Err f

abbrev pub checked_lines : List (List ℕ) → Checked
checked_lines ls = and_then (read_all 0 ls) (repeat_as (repeat_in [] 0 (map serial_of ls)))

-- "Each file must be all good lines with no repeated serial. Refusals ..: 11 file above either limit, 7 with line and place, then 8"
unfoldable pub checked : List ℕ → Checked
checked s = if_le (length s) file_max (if_le (length (lines_of s)) lines_max (checked_lines (lines_of s)) (Bad 0 TooLarge)) (Bad 0 TooLarge)

-- what comparing answers where a file is refused
abbrev pub refused_as : ℕ → Fault → Compared
refused_as file f = record { answer = Err f.refusal; file = file; line = f.line }

-- a file's refusal, with the lent memory as it was, or what comes after
abbrev pub unless : ℕ → Checked → List ℕ → Compared × List ℕ → Compared × List ℕ
unless file (Ok u) out x = x
unless file (Err f) out x = (refused_as file f, out)

-- an answer that is about neither file
abbrev pub of_neither : Answer × List ℕ → Compared × List ℕ
of_neither x = (record { answer = x.0; file = 0; line = 0 }, x.1)

-- the report of two good files; "last of all 5, when the report doesn't fit"
unfoldable pub reporting : List ℕ → List ℕ → List ℕ → Compared × List ℕ
reporting first second out = of_neither (giving (report (lines_of first) (lines_of second)) out)

-- "Refusals, first file before second"
unfoldable pub comparing : List ℕ → List ℕ → List ℕ → Compared × List ℕ
comparing first second out = unless 1 (checked first) out (unless 2 (checked second) out (reporting first second out))

-- c-interface.md: "With 7, the number has the file, the line and the place; with 8 the file and the line whose serial came before; with 11 the file."; "The returned number": bits 55..48 "the file that is refused, 1 or 2, with 7, 8 and 11", bits 47..32 "the line's number, from 1, with 7 and 8"
abbrev pub returned_as : Compared → ℕ
returned_as c = returned_of c.answer + (c.file * 2 ^ 48 + c.line * 2 ^ 32)

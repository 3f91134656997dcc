-- What contracts of private functions say: handles, and the walk over two sorted lists. Not from the paper.
use Rattle.std.specs.Prelude.{Option, None, Some, IfSome, Result, Err, MatchResult, ℕ, zero, suc, ◌+◌, ◌*◌, ◌/◌, ◌%◌, ◌^◌, ◌≤◌, ◌<◌, cond, ◌≡◌, List, [], ◌∷◌, map, eqb, length, take, drop}
use Rattle.line.specs.Reader.{serial_of}
use Rattle.texts.specs.Lines.{lines_of, line_length}
use Rattle.sorting.specs.Sorting.{sorted}
use Rattle.changes.specs.Report.{change, rising}
use Rattle.changes.specs.Compare.{Checked, Good, read_all, repeat_in, checked_lines, checked}
use Rattle.changes.specs.declared.Fault.{Fault}

-- ---- handles: a line's serial, and where it begins in its file

abbrev pub serial_in : ℕ → ℕ
serial_in x = x / 65536

abbrev pub start_in : ℕ → ℕ
start_in x = x % 65536

-- the handles of lines, the first of which begins at a
unfoldable pub handles_from : ℕ → List (List ℕ) → List ℕ
handles_from a [] = []
handles_from a (l ∷ ls) = (serial_of l * 65536 + a) ∷ handles_from (a + length l) ls

-- the line of a handle
abbrev pub line_at : List ℕ → ℕ → List ℕ
line_at s a = take (line_length (drop a s)) (drop a s)

abbrev pub line_in : List ℕ → ℕ → List ℕ
line_in s x = line_at s (start_in x)

-- a handle's serial is one, and its line begins in the file and has its digits there
pub record HandleIn (s : List ℕ) (x : ℕ) : Type 0 where
  pub serial : x < 2 ^ 60
  pub line : 37 ≤ line_length (drop (start_in x) s)

pub data Each (s : List ℕ) : List ℕ → Type 0 where
  none : Each s []
  more : {x : ℕ} {xs : List ℕ} → HandleIn s x → Each s xs → Each s (x ∷ xs)

-- the lines are read: the handles of all, or the first that is not good
abbrev pub HandlesRead : List ℕ → List ℕ → Checked → Type 0
HandlesRead s handles r = MatchResult r (λ _. (read_all 0 (lines_of s) ≡ Good) × (handles ≡ handles_from 0 (lines_of s))) (λ f. read_all 0 (lines_of s) ≡ Err f)

-- ---- handles in order

-- a number that is 0 where there is none
abbrev pub some_number : ℕ → Option ℕ
some_number zero = None
some_number (suc n) = Some (suc n)

-- r is the number of the first of the handles, from 1, whose serial came before
pub record FirstRepeat (handles : List ℕ) (r : Option ℕ) : Type 0 where
  pub number : r ≡ some_number (repeat_in [] 0 (map serial_in handles))
  pub few : IfSome r (λ n. n ≤ 1024)

-- the handles are sorted, and r is that number
pub record Ordered (handles : List ℕ) (r : Option ℕ) (out : List ℕ) : Type 0 where
  pub first : FirstRepeat handles r
  pub list : out ≡ sorted handles

-- ---- rising serials

-- each handle's serial is above s
pub data Above (s : ℕ) : List ℕ → Type 0 where
  none : Above s []
  more : {y : ℕ} {ys : List ℕ} → s < serial_in y → Above s ys → Above s (y ∷ ys)

pub data Ascending : List ℕ → Type 0 where
  none : Ascending []
  more : {x : ℕ} {xs : List ℕ} → Above (serial_in x) xs → Ascending xs → Ascending (x ∷ xs)

-- the first handle's serial, and above every serial where there is none
abbrev pub next_serial : List ℕ → ℕ
next_serial [] = 2 ^ 44
next_serial (x ∷ xs) = serial_in x

-- the handles with the serial s
unfoldable pub matching : ℕ → List ℕ → List ℕ
matching s [] = []
matching s (x ∷ xs) = cond (eqb (serial_in x) s) (x ∷ matching s xs) (matching s xs)

-- the report from the handles of two files
abbrev pub told : List ℕ → List ℕ → List ℕ → List ℕ → ℕ → List ℕ
told f g a b s = change (map (line_in f) (matching s a)) (map (line_in g) (matching s b))

unfoldable pub reported : List ℕ → List ℕ → List ℕ → List ℕ → List ℕ
reported f g a b = rising (told f g a b) (2 ^ 44) 0

-- handles of lines of a file, by rising serial
pub record Walkable (s a : List ℕ) : Type 0 where
  pub small : length s ≤ 65536
  pub few : length a ≤ 1024
  pub rising : Ascending a
  pub each : Each s a

-- ---- a file's handles, sorted

unfoldable pub handles_of : List ℕ → List ℕ
handles_of s = sorted (handles_from 0 (lines_of s))

abbrev pub LinesLoaded : List ℕ → List ℕ → Checked → Type 0
LinesLoaded s handles r = MatchResult r (λ _. (checked_lines (lines_of s) ≡ Good) × (handles ≡ handles_of s)) (λ f. checked_lines (lines_of s) ≡ Err f)

pub record GoodHandles (s handles : List ℕ) : Type 0 where
  pub good : checked s ≡ Good
  pub made : handles ≡ handles_of s

abbrev pub FileLoaded : List ℕ → List ℕ → Result ℕ Fault → Type 0
FileLoaded s handles r = MatchResult r (λ n. (n ≤ length handles) × GoodHandles s (take n handles)) (λ f. checked s ≡ Err f)

-- Request 5: "Each file must be all good lines with no repeated serial", each "at most 1,024 lines and 64 KiB": what a good file is, and when each refusal of a file comes. `Compare.antt` computes this (`checked`), and `proofs/Refused.antt` shows that it computes just this.
use Rattle.std.specs.Prelude.{ℕ, ◌+◌, ◌≤◌, ◌<◌, true, false, ◌≡◌, List, [], ◌∷◌, ◌++◌, map, length}
use Rattle.words.specs.Lists.{among}
use Rattle.refusals.specs.declared.Refusal.{Refusal}
use Rattle.refusals.specs.declared.Refusal.TheVariants.{Line, RepeatedSerial, TooLarge}
use Rattle.line.specs.Line.{GoodLine, Place}
use Rattle.line.specs.Reader.{serial_of}
use Rattle.texts.specs.Lines.{lines_of}
use Rattle.changes.specs.Compare.{lines_max, file_max, Checked, Good, Bad}

-- each of the lines is good
pub data AllGood : List (List ℕ) → Type 0 where
  none : AllGood []
  more : {l : List ℕ} {ls : List (List ℕ)} → GoodLine l → AllGood ls → AllGood (l ∷ ls)

-- the serial of each of the lines is neither among these nor that of a line before it
pub data Once : List ℕ → List (List ℕ) → Type 0 where
  once_none : {seen : List ℕ} → Once seen []
  once_more : {seen l : List ℕ} {ls : List (List ℕ)} → among (serial_of l) seen ≡ false → Once (seen ++ (serial_of l ∷ [])) ls → Once seen (l ∷ ls)

pub record Within (s : List ℕ) : Type 0 where
  pub bytes : length s ≤ file_max
  pub lines : length (lines_of s) ≤ lines_max

pub record GoodFile (s : List ℕ) : Type 0 where
  pub within : Within s
  pub lines : AllGood (lines_of s)
  pub once : Once [] (lines_of s)

-- the refusal of a file, and the line's number, from 1, or 0 where no line has it
pub data Refuses (s : List ℕ) : ℕ → Refusal → Type 0 where
  -- "11 file above either limit"
  long : file_max < length s → Refuses s 0 TooLarge
  many : lines_max < length (lines_of s) → Refuses s 0 TooLarge
  -- "7 with line and place": the lines before it are good
  line : Within s → (before : List (List ℕ)) (l : List ℕ) (after : List (List ℕ)) (k : ℕ) → lines_of s ≡ before ++ (l ∷ after) → AllGood before → Place l k → Refuses s (length before + 1) (Line k)
  -- "then 8": every line is good, and this is the first whose serial came before
  serial : Within s → AllGood (lines_of s) → (before : List (List ℕ)) (l : List ℕ) (after : List (List ℕ)) → lines_of s ≡ before ++ (l ∷ after) → Once [] before → among (serial_of l) (map serial_of before) ≡ true → Refuses s (length before + 1) RepeatedSerial

-- what is to be said of a file by itself
pub data Judged (s : List ℕ) : Checked → Type 0 where
  good : GoodFile s → Judged s Good
  bad : {n : ℕ} {r : Refusal} → Refuses s n r → Judged s (Bad n r)

-- Document 01, "The file checker's listing", with request 1 of document 02, "A serial used twice": what the checker prints, from the bytes of the input.
use Rattle.std.specs.Prelude.{ℕ, zero, suc, ◌+◌, ◌-◌, ◌≤◌, Bool, true, false, cond, ◌&&◌, ◌≡◌, List, [], ◌∷◌, ◌++◌, eqb, ltb, length, get_or, replicate, Ok, Err}
use Rattle.refusals.specs.Refusals.{Answer, number_of, place_of}
use Rattle.words.specs.Cases.{if_le, if_yes}
use Rattle.words.specs.Lists.{among}
use Rattle.texts.specs.Texts.{decimal}
use Rattle.texts.specs.Lines.{lines_of}
use Rattle.refusals.specs.declared.Refusal.{Refusal}
use Rattle.refusals.specs.declared.Refusal.TheVariants.{RepeatedSerial, SerialListFull}
use Rattle.line.specs.Reader.{hex_value, number_at, serial_of}
use Rattle.line.specs.Calls.{opening_line}

-- ---- the key line

-- whether the first n bytes are digits
abbrev pub are_digits : List ℕ → ℕ → Bool
are_digits l zero = true
are_digits l (suc n) = are_digits l n && ltb (hex_value (get_or l n 48)) 16

-- "a key line (32 lowercase hexadecimal digits, w0 then k0, byte 0A)"
unfoldable pub is_key : List ℕ → Bool
is_key l = eqb (length l) 33 && eqb (get_or l 32 48) 10 && are_digits l 32

-- "w0 then k0"
abbrev pub w0_of : List ℕ → ℕ
w0_of l = number_at l 0 16

abbrev pub k0_of : List ℕ → ℕ
k0_of l = number_at l 16 16

-- ---- what is printed: "Every printed line ends with byte 0A."

-- "key refused", 0A
abbrev pub key_refused_text : List ℕ
key_refused_text = 107 ∷ 101 ∷ 121 ∷ 32 ∷ 114 ∷ 101 ∷ 102 ∷ 117 ∷ 115 ∷ 101 ∷ 100 ∷ 10 ∷ []

-- " opened "
abbrev pub opened_text : List ℕ
opened_text = 32 ∷ 111 ∷ 112 ∷ 101 ∷ 110 ∷ 101 ∷ 100 ∷ 32 ∷ []

-- " refused "
abbrev pub refused_text : List ℕ
refused_text = 32 ∷ 114 ∷ 101 ∷ 102 ∷ 117 ∷ 115 ∷ 101 ∷ 100 ∷ 32 ∷ []

-- " at "
abbrev pub at_text : List ℕ
at_text = 32 ∷ 97 ∷ 116 ∷ 32 ∷ []

-- "lines "
abbrev pub lines_text : List ℕ
lines_text = 108 ∷ 105 ∷ 110 ∷ 101 ∷ 115 ∷ 32 ∷ []

-- "`refused`, the number and, for 7, the place"
abbrev pub refusal_text : Refusal → List ℕ
refusal_text r = decimal (number_of r) ++ cond (eqb (number_of r) 7) (at_text ++ decimal (place_of r)) []

-- "Each line prints its number with `opened` and the message length, or `refused`, .."
abbrev pub report : ℕ → Answer → List ℕ
report n (Ok k) = decimal n ++ (opened_text ++ (decimal k ++ (10 ∷ [])))
report n (Err r) = decimal n ++ (refused_text ++ (refusal_text r ++ (10 ∷ [])))

-- ---- what is answered for each line

-- what opening a line by itself answers, with room for every message
unfoldable pub answer_of : ℕ → ℕ → List ℕ → Answer
answer_of w0 k0 l = (opening_line w0 k0 l (replicate 1024 0)).0

-- "the file checker remembers the serials of opened frames, up to 4,096 in a run"
abbrev pub serials_max : ℕ
serials_max = 4096

-- "A frame that would open under a remembered serial is refused, even if identical." "8 repeated serial, 9 serial list full (a fresh serial after 4,096), both after 6, 8 before 9": used are the serials remembered, a is what opening the line by itself answers
abbrev pub unless_used : List ℕ → ℕ → Answer → Answer
unless_used used serial (Err r) = Err r
unless_used used serial (Ok k) = if_yes (among serial used) (Err RepeatedSerial) (if_le serials_max (length used) (Err SerialListFull) (Ok k))

-- what is answered for a line after lines that left these serials used
abbrev pub answer_after : ℕ → ℕ → List ℕ → List ℕ → Answer
answer_after w0 k0 used l = unless_used used (serial_of l) (answer_of w0 k0 l)

-- the serials used then: "Refused frames use up nothing."
abbrev pub used_by : List ℕ → ℕ → Answer → List ℕ
used_by used serial (Ok k) = serial ∷ used
used_by used serial (Err r) = used

abbrev pub used_after : ℕ → ℕ → List ℕ → List ℕ → List ℕ
used_after w0 k0 used l = used_by used (serial_of l) (answer_after w0 k0 used l)

-- line by line, in order
abbrev pub answers : ℕ → ℕ → List ℕ → List (List ℕ) → List Answer
answers w0 k0 used [] = []
answers w0 k0 used (l ∷ ls) = answer_after w0 k0 used l ∷ answers w0 k0 (used_after w0 k0 used l) ls

-- ---- the listing

-- the reports behind the first n
abbrev pub reports : ℕ → List Answer → List ℕ
reports n [] = []
reports n (a ∷ rest) = report (n + 1) a ++ reports (n + 1) rest

-- 1 for a line that opened
abbrev pub one : Answer → ℕ
one (Ok k) = 1
one (Err r) = 0

-- how many of the lines opened: "a line with either counts as refused"
abbrev pub opened_in : List Answer → ℕ
opened_in [] = 0
opened_in (a ∷ rest) = one a + opened_in rest

-- "a total closes"
abbrev pub total : ℕ → ℕ → List ℕ
total n k = lines_text ++ (decimal n ++ (opened_text ++ (decimal k ++ (refused_text ++ (decimal (n - k) ++ (10 ∷ []))))))

abbrev pub reported : List Answer → List ℕ
reported given = reports 0 given ++ total (length given) (opened_in given)

-- "A bad key line prints `key refused` and nothing more."
unfoldable pub listed : List (List ℕ) → List ℕ
listed [] = key_refused_text
listed (l ∷ ls) = cond (is_key l) (reported (answers (w0_of l) (k0_of l) [] ls)) key_refused_text

-- the whole output for an input
abbrev pub listing : List ℕ → List ℕ
listing s = listed (lines_of s)

-- ---- a line among others

-- the serials used after these lines
abbrev pub used_up_to : ℕ → ℕ → List ℕ → List (List ℕ) → List ℕ
used_up_to w0 k0 used [] = used
used_up_to w0 k0 used (l ∷ ls) = used_up_to w0 k0 (used_after w0 k0 used l) ls

-- what is answered for a line behind these lines of a file
abbrev pub answer_behind : ℕ → ℕ → List (List ℕ) → List ℕ → Answer
answer_behind w0 k0 before l = answer_after w0 k0 (used_up_to w0 k0 [] before) l

-- one of the lines has this serial and was reported as opened
pub record UsedBefore (w0 k0 serial : ℕ) (before : List (List ℕ)) : Type 0 where
  pub earlier : List (List ℕ)
  pub line : List ℕ
  pub later : List (List ℕ)
  pub cut : before ≡ earlier ++ (line ∷ later)
  pub size : ℕ
  pub opened : answer_behind w0 k0 earlier line ≡ Ok size
  pub same : serial_of line ≡ serial

-- ---- a good file

-- each of the lines opens by itself
pub data Opens (w0 k0 : ℕ) : List (List ℕ) → Type 0 where
  none : Opens w0 k0 []
  more : {l : List ℕ} {ls : List (List ℕ)} (k : ℕ) → answer_of w0 k0 l ≡ Ok k → Opens w0 k0 ls → Opens w0 k0 (l ∷ ls)

-- the serial of each of the lines is neither among these nor that of a line before it
pub data Once : List ℕ → List (List ℕ) → Type 0 where
  once_none : {used : List ℕ} → Once used []
  once_more : {used l : List ℕ} {ls : List (List ℕ)} → among (serial_of l) used ≡ false → Once (serial_of l ∷ used) ls → Once used (l ∷ ls)

-- "a file is good when every line opens and no serial comes twice", and none is refused because the list is full: its first line is a key line, and the lines behind that are at most 4,096
pub record GoodFile (s : List ℕ) : Type 0 where
  pub key : List ℕ
  pub lines : List (List ℕ)
  pub cut : lines_of s ≡ key ∷ lines
  pub right : is_key key ≡ true
  pub opens : Opens (w0_of key) (k0_of key) lines
  pub once : Once [] lines
  pub few : length lines ≤ serials_max

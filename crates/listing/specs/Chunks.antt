-- The listing reckoned from chunks of the input: what is kept between them, and what each brings. Not from the paper: `proofs/Chunks.antt` shows that it gives the listing.
use Rattle.std.specs.Prelude.{ℕ, ◌+◌, ◌≤◌, ◌<◌, ◌^◌, true, false, cond, ◌≡◌, List, [], ◌∷◌, ◌++◌, eqb, ltb, length, take, drop, set, Ok, Err}
use Rattle.texts.specs.Texts.{Appended}
use Rattle.refusals.specs.Refusals.{Answer}
use Rattle.serials.specs.Serials.{Rising, put}
use Rattle.line.specs.Reader.{serial_of}
use Rattle.listing.specs.Listing.{is_key, w0_of, k0_of, key_refused_text, answer_of, serials_max, unless_used, report, one, total}
use Rattle.cipher.specs.declared.Key.{Key}
use Rattle.listing.specs.declared.KeyLine.{KeyLine}
use Rattle.listing.specs.declared.KeyLine.TheVariants.{Unread, Known, Bad}
use Rattle.listing.specs.declared.Lister.{Lister}
use Rattle.listing.specs.declared.Gathered.{Gathered}
use Rattle.listing.specs.declared.Fed.{Fed}

-- the first 2,150 bytes of a line are kept: they decide its reading
abbrev pub line_kept : ℕ
line_kept = 2150

unfoldable pub pushing : List ℕ → ℕ → ℕ → List ℕ
pushing line held b = cond (ltb held line_kept) (set line held b) line

unfoldable pub pushed : ℕ → ℕ
pushed held = cond (ltb held line_kept) (held + 1) held

-- nothing has been read
abbrev pub start : Lister
start = record { key = Unread; lines = 0; opened = 0; held = 0 }

-- bytes go behind those that are held, up to the first 0A; n were taken before
abbrev pub gathering : List ℕ → ℕ → ℕ → List ℕ → Gathered × List ℕ
gathering line held n [] = (record { held = held; taken = n; ended = false }, line)
gathering line held n (b ∷ s) =
    cond (eqb b 10)
    (record { held = pushed held; taken = n + 1; ended = true }, pushing line held b)
    (gathering (pushing line held b) (pushed held) (n + 1) s)

-- the key that a line has
unfoldable pub key_of : List ℕ → KeyLine
key_of l = cond (is_key l) (Known (record { w0 = w0_of l; k0 = k0_of l })) Bad

-- what is printed of the key line
abbrev pub key_text : KeyLine → List ℕ
key_text Unread = []
key_text (Known key) = []
key_text Bad = key_refused_text

-- the first n numbers of the lent memory m are the serials used; that of a line that opened is put in its place, and a refused line leaves the memory as it was
abbrev pub used_in : ℕ → ℕ → List ℕ → Answer → List ℕ
used_in n serial m (Ok k) = put serial (take n m) ++ drop (n + 1) m
used_in n serial m (Err r) = m

-- what is answered for a line that by itself gets the answer a, and the memory then
unfoldable pub answering : ℕ → ℕ → List ℕ → Answer → Answer × List ℕ
answering n serial m a = (unless_used (take n m) serial a, used_in n serial m (unless_used (take n m) serial a))

-- a line under a known key has ended, and was answered so: the new state, the memory, and what is printed
abbrev pub ended_known : Lister → Key ℕ → Answer × List ℕ → Lister × List ℕ × List ℕ
ended_known t key x = (
  record { key = Known key; lines = t.lines + 1; opened = t.opened + one x.0; held = 0 },
  x.1,
  report (t.lines + 1) x.0,
)

-- the key line has ended, and this is known of it
abbrev pub keyed : Lister → KeyLine → Lister
keyed t k = record { key = k; lines = t.lines; opened = t.opened; held = 0 }

-- a line l has ended
abbrev pub ended_as : Lister → List ℕ → List ℕ → KeyLine → Lister × List ℕ × List ℕ
ended_as t m l Unread = (keyed t (key_of l), m, key_text (key_of l))
ended_as t m l (Known key) = ended_known t key (answering t.opened (serial_of l) m (answer_of key.w0 key.k0 l))
ended_as t m l Bad = (keyed t Bad, m, [])

unfoldable pub ending : Lister → List ℕ → List ℕ → Lister × List ℕ × List ℕ
ending t m l = ended_as t m l t.key

-- the state, the memory and the text are these: the text stands in the first n bytes of out, where what was there is d
pub record Ends (x : Lister × List ℕ × List ℕ) (d : List ℕ) (u : Lister) (m out : List ℕ) (n : ℕ) : Type 0 where
  pub state : u ≡ x.0
  pub serials : m ≡ x.1
  pub text : Appended d 0 x.2 out n

-- the state with n bytes held
abbrev pub holding : Lister → ℕ → Lister
holding t n = record { key = t.key; lines = t.lines; opened = t.opened; held = n }

-- what a chunk brings: a line that ended, or more bytes of one that has not
abbrev pub fed_by : Lister → List ℕ → Gathered × List ℕ → Lister × List ℕ × List ℕ
fed_by t m g = cond g.0.ended (ending t m (take g.0.held g.1)) (holding t g.0.held, m, [])

pub record Feeds (t : Lister) (m : List ℕ) (g : Gathered × List ℕ) (d : List ℕ) (r : Fed) (u : Lister) (l m' out : List ℕ) : Type 0 where
  pub taken : r.taken ≡ g.0.taken
  pub state : u ≡ (fed_by t m g).0
  pub line : l ≡ g.1
  pub serials : m' ≡ (fed_by t m g).1
  pub text : Appended d 0 (fed_by t m g).2 out r.said

-- the last piece
unfoldable pub finishing : Lister → List ℕ → List ℕ → Lister × List ℕ × List ℕ
finishing t m line = cond (eqb t.held 0) (t, m, []) (ending t m (take t.held line))

-- what is printed at the end
abbrev pub total_as : Lister → KeyLine → List ℕ
total_as t Unread = key_refused_text
total_as t (Known key) = total t.lines t.opened
total_as t Bad = []

unfoldable pub closing : Lister → List ℕ
closing t = total_as t t.key

-- what is known of a state: no more opened lines than lines, fewer than 2^63 lines, and no more bytes held than are kept of a line
pub record Kept (t : Lister) : Type 0 where
  pub few : t.opened ≤ t.lines
  pub lines : t.lines < 2 ^ 63
  pub held : t.held ≤ line_kept

-- and of the memory, where n lines opened: it holds 4,096 numbers, and the first n rise
pub record Remembers (n : ℕ) (m : List ℕ) : Type 0 where
  pub room : length m ≡ serials_max
  pub few : n ≤ serials_max
  pub rising : Rising 0 (take n m)

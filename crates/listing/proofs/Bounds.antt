-- What callers know of the listing's answers: states stay within the bounds that are required of them, bytes are taken, texts are short.
use Prim.Native.Nat.{ℕ, ◌+◌, ◌-◌, ◌^◌, ◌≤◌, ◌<◌}
use mathlib.Core.Bool.{Bool, true, false, cond}
use mathlib.Core.Path.{◌≡◌, sym, subst}
use mathlib.Core.List.{List, [], ◌∷◌, ◌++◌}
use native.Mathlib.Nat.{zero-add}
use native.Mathlib.Omega.{arith}
use lib.Dec.{eqb}
use lib.ListN.{length, take, length-append}
use Rattle.words.proofs.Cases.{by_eq}
use Rattle.refusals.specs.Refusals.{Answer, number_of, place_of}
use Rattle.std.specs.Prelude.{Ok, Err}
use Rattle.refusals.specs.declared.Refusal.{Refusal}
use Rattle.texts.specs.Texts.{decimal, Appended}
use Rattle.listing.specs.Listing.{answer_of, one, at_text, refusal_text, report, total}
use Rattle.listing.specs.Chunks.{pushing, pushed, gathering, key_text, key_of, ended_as, ending, holding, fed_by, answering, Ends, Feeds, finishing, total_as, closing, Kept, Remembers}
use Rattle.listing.specs.declared.KeyLine.{KeyLine}
use Rattle.listing.specs.declared.KeyLine.TheVariants.{Unread, Known, Bad}
use Rattle.listing.specs.declared.Lister.{Lister}
use Rattle.listing.specs.declared.Gathered.{Gathered}
use Rattle.listing.specs.declared.Fed.{Fed}
use Rattle.line.specs.Reader.{serial_of}
use Rattle.texts.proofs.Texts.{decimal_short}
use Rattle.listing.proofs.Used.{remembers_next}
use Rattle.listing.proofs.Gathering.{push_few, on_end, on_more}

pub one_few : (a : Answer) → one a ≤ 1
one_few (Ok k) = omega arith
one_few (Err r) = omega arith

-- ---- texts

short_refusal : (r : Refusal) → length (refusal_text r) ≤ 44
short_refusal r = go (eqb (number_of r) 7)
  where
    go : (y : Bool) → length (decimal (number_of r) ++ cond y (at_text ++ decimal (place_of r)) []) ≤ 44
    go true = simp length-append (omega (arith, decimal_short (number_of r), decimal_short (place_of r)))
    go false = simp length-append (omega (arith, decimal_short (number_of r)))

short_report : (n : ℕ) (a : Answer) → length (report n a) ≤ 128
short_report n (Ok k) = simp length-append (omega (arith, decimal_short n, decimal_short k))
short_report n (Err r) = simp length-append (omega (arith, decimal_short n, simp length-append at (short_refusal r)))

short_key : (k : KeyLine) → length (key_text k) ≤ 128
short_key Unread = omega arith
short_key (Known key) = omega arith
short_key Bad = omega arith

short_total : (n k : ℕ) → length (total n k) ≤ 128
short_total n k = simp length-append (omega (arith, decimal_short n, decimal_short k, decimal_short (n - k)))

-- ---- states

-- from the state t: a state u with one line more at most, the memory m, and a text of n bytes, which is short
pub record Bounded (t u : Lister) (m : List ℕ) (n : ℕ) : Type 0 where
  pub few : u.opened ≤ u.lines
  pub lines : u.lines ≤ t.lines + 1
  pub held : u.held ≤ 2150
  pub serials : Remembers u.opened m
  pub said : n ≤ 128

abbrev Next : Lister → Lister × List ℕ × List ℕ → Type 0
Next t x = Bounded t x.0 x.1 (length x.2)

next_as : (t : Lister) (m l : List ℕ) (k : KeyLine) → Kept t → Remembers t.opened m → Next t (ended_as t m l k)
next_as t m l Unread h s = record { few = h.few; lines = omega arith; held = omega arith; serials = s; said = short_key (key_of l) }
next_as t m l (Known key) h s =
    let a = answering t.opened (serial_of l) m (answer_of key.w0 key.k0 l) in
    record {
      few = omega (arith, h.few, one_few a.0);
      lines = omega arith;
      held = omega arith;
      serials = remembers_next t.opened (serial_of l) m s (answer_of key.w0 key.k0 l);
      said = short_report (t.lines + 1) a.0;
    }
next_as t m l Bad h s = record { few = h.few; lines = omega arith; held = omega arith; serials = s; said = omega arith }

next_ending : (t : Lister) (m l : List ℕ) → Kept t → Remembers t.opened m → Next t (ending t m l)
unfolding ending
next_ending t m l h s = next_as t m l t.key h s

-- what is taken of a chunk: no more than there is, and a byte at least if there is one
record Taken (n : ℕ) (chunk : List ℕ) (g : Gathered) : Type 0 where
  held : g.held ≤ 2150
  most : g.taken ≤ n + length chunk
  least : n ≤ g.taken
  some : 1 ≤ length chunk → n + 1 ≤ g.taken

taken : (chunk line : List ℕ) (held n : ℕ) → held ≤ 2150 → Taken n chunk (gathering line held n chunk).0
taken [] line held n h = record { held = h; most = omega arith; least = omega arith; some = λ l. absurd (omega arith) }
taken (b ∷ s) line held n h =
    by_eq b 10
    (λ e.
    subst (λ (x : Gathered × List ℕ). Taken n (b ∷ s) x.0) (sym (on_end line held n b s e))
    (record { held = push_few line held b h; most = omega arith; least = omega arith; some = λ l. omega arith }))
    (λ e.
    let r = taken s (pushing line held b) (pushed held) (n + 1) (push_few line held b h) in
    subst (λ (x : Gathered × List ℕ). Taken n (b ∷ s) x.0) (sym (on_more line held n b s e))
    (record { held = r.held; most = omega (arith, r.most); least = omega (arith, r.least); some = λ l. r.least }))

next_fed : (t : Lister) (m : List ℕ) (g : Gathered × List ℕ) → Kept t → Remembers t.opened m → g.0.held ≤ 2150 → Next t (fed_by t m g)
next_fed t m g h s l = go g.0.ended
  where
    go : (y : Bool) → Next t (cond y (ending t m (take g.0.held g.1)) (holding t g.0.held, m, []))
    go true = next_ending t m (take g.0.held g.1) h s
    go false = record { few = h.few; lines = omega arith; held = l; serials = s; said = omega arith }

next_finished : (t : Lister) (m line : List ℕ) → Kept t → Remembers t.opened m → Next t (finishing t m line)
unfolding finishing
next_finished t m line h s = go (eqb t.held 0)
  where
    go : (y : Bool) → Next t (cond y (t, m, []) (ending t m (take t.held line)))
    go true = record { few = h.few; lines = omega arith; held = h.held; serials = s; said = omega arith }
    go false = next_ending t m (take t.held line) h s

-- ---- what the functions answer

pub next_kept : {t u : Lister} {m : List ℕ} {n : ℕ} → t.lines + 1 < 2 ^ 63 → Bounded t u m n → Kept u
next_kept h b = record { few = b.few; lines = omega (arith, h, b.lines); held = b.held }

bounded : (t : Lister) (x : Lister × List ℕ × List ℕ) (u : Lister) (m d out : List ℕ) (n : ℕ) → Next t x → u ≡ x.0 → m ≡ x.1 → Appended d 0 x.2 out n → Bounded t u m n
bounded t x u m d out n h e f a = rw (e, f, a.end, zero-add) h

pub feed_bounded : {t : Lister} (chunk line m : List ℕ) {line' m' d out : List ℕ} {r : Fed} {u : Lister} → Kept t → Remembers t.opened m → Feeds t m (gathering line t.held 0 chunk) d r u line' m' out → Bounded t u m' r.said
feed_bounded {t} chunk line m {line'} {m'} {d} {out} {r} {u} h s f =
    let g = gathering line t.held 0 chunk in
    bounded t (fed_by t m g) u m' d out r.said (next_fed t m g h s (taken chunk line t.held 0 h.held).held) f.state f.serials f.text

pub feed_taken : {t : Lister} (chunk line m : List ℕ) {line' m' d out : List ℕ} {r : Fed} {u : Lister} → Kept t → Feeds t m (gathering line t.held 0 chunk) d r u line' m' out
    → (r.taken ≤ length chunk) × (1 ≤ length chunk → 1 ≤ r.taken)
feed_taken {t} chunk line m {line'} {m'} {d} {out} {r} h f =
    let k = taken chunk line t.held 0 h.held in
    (omega (arith, k.most, f.taken), λ l. omega (arith, k.some l, f.taken))

pub finish_bounded : {t : Lister} (line m : List ℕ) {m' d out : List ℕ} {u : Lister} {n : ℕ} → Kept t → Remembers t.opened m → Ends (finishing t m line) d u m' out n → Bounded t u m' n
finish_bounded {t} line m {m'} {d} {out} {u} {n} h s e =
    bounded t (finishing t m line) u m' d out n (next_finished t m line h s) e.state e.serials e.text

short_closing : (t : Lister) → length (closing t) ≤ 128
unfolding closing
short_closing t = go t.key
  where
    go : (k : KeyLine) → length (total_as t k) ≤ 128
    go Unread = omega arith
    go (Known key) = short_total t.lines t.opened
    go Bad = omega arith

pub total_bounded : (t : Lister) {d out : List ℕ} {m : ℕ} → Appended d 0 (closing t) out m → m ≤ 128
total_bounded t a = omega (arith, a.end, short_closing t)

-- Chunk by chunk: however an input is cut, what is printed is the listing of the whole.
use Prim.Native.Nat.{ℕ, suc, ◌+◌, ◌≤◌}
use mathlib.Core.Bool.{true, false}
use mathlib.Core.Path.{◌≡◌, refl, sym, ap, ap₂, subst, ◌∙◌}
use mathlib.Core.List.{List, [], ◌∷◌, ◌++◌, append-nil}
use native.Mathlib.Nat.{zero-add, le_refl}
use native.Mathlib.Omega.{arith}
use borrow.Author.Tests.{eq-eqb, ne_eqb}
use lib.ListN.{length, take, drop, length-take}
use lib.Seq.{append_snoc, take_all, take-append-le, take-take, take_at, take-length, length-take-le}
use Rattle.words.proofs.Cases.{by_lt, by_eq}
use Rattle.refusals.specs.Refusals.{Answer}
use Rattle.texts.specs.Texts.{Appended}
use Rattle.listing.specs.Listing.{serials_max, listing}
use Rattle.listing.specs.Chunks.{start, pushing, pushed, gathering, key_text, answering, Ends, ended_known, ended_as, ending, holding, fed_by, Feeds, finishing, closing, total_as}
use Rattle.listing.specs.declared.KeyLine.{KeyLine}
use Rattle.listing.specs.declared.KeyLine.TheVariants.{Unread, Known, Bad}
use Rattle.listing.specs.declared.Lister.{Lister}
use Rattle.listing.specs.declared.Gathered.{Gathered}
use Rattle.listing.specs.declared.Fed.{Fed}
use Rattle.listing.proofs.Gathering.{push_few, push_length, push_bytes, on_end, on_more}
use Rattle.listing.proofs.Long.{long_answer, long_serial, long_key}
use Rattle.listing.proofs.Bytes.{Sofar, began, brings, ended, longer, step_ended, step_longer, fed, fed_append, all_as, reckons}

-- ---- the bytes that are held

cut : (p : List ℕ) (b : ℕ) → take 2150 (take 2150 p ++ b ∷ []) ≡ take 2150 (p ++ b ∷ [])
cut p b =
    by_lt (length p) 2150 (λ l. ap (λ (x : List ℕ). take 2150 (x ++ b ∷ [])) (take_all 2150 p (omega arith)))
    (λ l.
    take-append-le 2150 (take 2150 p) (b ∷ []) (omega (arith, length-take 2150 p))
    ∙ take-take 2150 2150 p (le_refl 2150)
    ∙ sym (take-append-le 2150 p (b ∷ []) l))

-- the first bytes of the line that has not ended are held
pub record Holds (line : List ℕ) (held : ℕ) (part : List ℕ) : Type 0 where
  pub few : held ≤ 2150
  pub room : 2150 ≤ length line
  pub bytes : take held line ≡ take 2150 part

hold_more : (line : List ℕ) (held b : ℕ) (part : List ℕ) → Holds line held part → Holds (pushing line held b) (pushed held) (part ++ b ∷ [])
hold_more line held b part h = record {
  few = push_few line held b h.few;
  room = omega (arith, push_length line held b, h.room);
  bytes = push_bytes line held b h.few h.room ∙ ap (λ (x : List ℕ). take 2150 (x ++ b ∷ [])) h.bytes ∙ cut part b;
}

-- ---- what is gathered from a chunk

pub data Gathers (st : Sofar) (n : ℕ) (chunk : List ℕ) (g : Gathered) (line : List ℕ) : Type 0 where
  whole_line : (k : ℕ) (l : List ℕ) → g.ended ≡ true → g.taken ≡ n + k → 1 ≤ k → k ≤ length chunk → fed st (take k chunk) ≡ ended st l → Holds line g.held l → Gathers st n chunk g line
  more_of_it : g.ended ≡ false → g.taken ≡ n + length chunk → fed st chunk ≡ longer st (st.part ++ chunk) → Holds line g.held (st.part ++ chunk) → Gathers st n chunk g line

gather_steps : (st : Sofar) (n b : ℕ) (s : List ℕ) (g : Gathered) (line : List ℕ) → (b ≡ 10 → ⊥) → Gathers (longer st (st.part ++ b ∷ [])) (n + 1) s g line → Gathers st n (b ∷ s) g line
unfolding fed
gather_steps st n b s g line z (whole_line k l y e lo hi f h) =
    whole_line (suc k) l y (e ∙ omega arith) (omega arith) (omega arith) (ap (λ (x : Sofar). fed x (take k s)) (step_longer st b z) ∙ f) h
gather_steps st n b s g line z (more_of_it y e f h) =
    let same : (st.part ++ b ∷ []) ++ s ≡ st.part ++ b ∷ s = append_snoc st.part b s in
    more_of_it y (e ∙ omega arith) (ap (λ (x : Sofar). fed x s) (step_longer st b z) ∙ f ∙ ap (longer st) same) (subst (Holds line g.held) same h)

pub gathers : (chunk : List ℕ) (st : Sofar) (line : List ℕ) (held n : ℕ) → Holds line held st.part
    → Gathers st n chunk (gathering line held n chunk).0 (gathering line held n chunk).1
unfolding fed
gathers [] st line held n h =
    more_of_it refl (omega arith) (ap (longer st) (sym (append-nil st.part))) (subst (Holds line held) (sym (append-nil st.part)) h)
gathers (b ∷ s) st line held n h =
    by_eq b 10
    (λ e.
    subst (λ (x : Gathered × List ℕ). Gathers st n (b ∷ s) x.0 x.1) (sym (on_end line held n b s e))
    (whole_line 1 (st.part ++ b ∷ []) refl refl (omega arith) (omega arith) (step_ended st b e) (hold_more line held b st.part h)))
    (λ e.
    subst (λ (x : Gathered × List ℕ). Gathers st n (b ∷ s) x.0 x.1) (sym (on_more line held n b s e))
    (gather_steps st n b s _ _ e (gathers s (longer st (st.part ++ b ∷ [])) (pushing line held b) (pushed held) (n + 1) (hold_more line held b st.part h))))

-- ---- the state of the code and that of the definition differ in the number of bytes held, which `ending` does not look at

abbrev pub settled : Lister → Lister
settled t = holding t 0

ending_as : (t : Lister) (m l : List ℕ) (k : KeyLine) → ended_as t m (take 2150 l) k ≡ ended_as (settled t) m l k
ending_as t m l Unread = ap (λ (k : KeyLine). (record { key = k; lines = t.lines; opened = t.opened; held = 0 }, m, key_text k)) (long_key l)
ending_as t m l (Known key) = ap₂ (λ (x : ℕ) (a : Answer). ended_known t key (answering t.opened x m a)) (long_serial l) (long_answer key.w0 key.k0 l)
ending_as t m l Bad = refl

ending_same : (t s : Lister) (m n x l : List ℕ) → settled t ≡ s → m ≡ n → x ≡ take 2150 l → ending t m x ≡ ending s n l
unfolding ending
ending_same t s m n x l e d q =
    ap₂ (λ (u v : List ℕ). ended_as t u v t.key) d q
    ∙ ending_as t n l t.key
    ∙ ap (λ (u : Lister). ended_as u n l u.key) e

settled_as : (t : Lister) (m l : List ℕ) (k : KeyLine) → settled (ended_as t m l k).0 ≡ (ended_as t m l k).0
settled_as t m l Unread = refl
settled_as t m l (Known key) = refl
settled_as t m l Bad = refl

settled_ending : (t : Lister) (m l : List ℕ) → settled (ending t m l).0 ≡ (ending t m l).0
unfolding ending
settled_ending t m l = settled_as t m l t.key

closing_as : (t : Lister) (k : KeyLine) → total_as t k ≡ total_as (settled t) k
closing_as t Unread = refl
closing_as t (Known key) = refl
closing_as t Bad = refl

closing_settled : (t : Lister) → closing t ≡ closing (settled t)
unfolding closing
closing_settled t = closing_as t t.key

-- a text that was appended is in the first bytes
appended_text : {d t out : List ℕ} {m : ℕ} → Appended d 0 t out m → take m out ≡ t
appended_text {d} {t} {out} {m} a =
    ap₂ take (a.end ∙ zero-add (length t)) a.text
    ∙ take_at (take (length t) t) (drop (0 + length t) d) (length t) (ap length (take-length t))
    ∙ take-length t

-- ---- after the bytes p the code keeps this, and said has been printed: m₀ is what stood in the memory of the serials before

module _ (m₀ : List ℕ) where
  abbrev after : List ℕ → Sofar
  after p = fed (began m₀) p

  pub record Keeps (p : List ℕ) (t : Lister) (line m said : List ℕ) : Type 0 where
    pub state : settled t ≡ (after p).state
    pub serials : m ≡ (after p).serials
    pub held : Holds line t.held (after p).part
    pub printed : said ≡ (after p).said

  pub keeps_none : (line : List ℕ) → 2150 ≤ length line → Keeps [] start line m₀ []
  unfolding fed
  keeps_none line h = record { state = refl; serials = refl; held = record { few = omega arith; room = h; bytes = refl }; printed = refl }

  keeps_of : (p : List ℕ) (st : Sofar) (t : Lister) (line m said : List ℕ) → after p ≡ st → settled t ≡ st.state → m ≡ st.serials → Holds line t.held st.part → said ≡ st.said → Keeps p t line m said
  keeps_of p st t line m said e a f b c = record { state = rw e a; serials = rw e f; held = rw e b; printed = rw e c }

  keeps_as : (p chunk line m m' said out d : List ℕ) (t : Lister) (g : Gathered) (r : Fed) (u : Lister) → settled t ≡ (after p).state → m ≡ (after p).serials → said ≡ (after p).said
      → Gathers (after p) 0 chunk g line → Feeds t m (g, line) d r u line m' out → Keeps (p ++ take r.taken chunk) u line m' (said ++ take r.said out)
  keeps_as p chunk line m m' said out d t g r v e w q (whole_line k l y n lo hi f h) u =
      let st : Sofar = after p in
      let both : fed_by t m (g, line) ≡ brings st l = rw y (ending_same t st.state m st.serials (take g.held line) l e w h.bytes) in
      let rs : v ≡ (brings st l).0 = u.state ∙ ap (λ (x : Lister × List ℕ × List ℕ). x.0) both in
      let settled_rs : settled (brings st l).0 ≡ (brings st l).0 = settled_ending st.state st.serials l in
      let none : v.held ≡ 0 = ap (λ (x : Lister). x.held) rs ∙ sym (ap (λ (x : Lister). x.held) settled_rs) in
      keeps_of (p ++ take r.taken chunk) (ended st l) v line m' (said ++ take r.said out)
      (fed_append (began m₀) p (take r.taken chunk) ∙ ap (λ (j : ℕ). fed st (take j chunk)) (u.taken ∙ n ∙ zero-add k) ∙ f)
      (ap settled rs ∙ settled_rs)
      (u.serials ∙ ap (λ (x : Lister × List ℕ × List ℕ). x.1) both)
      (record { few = omega (arith, none); room = h.room; bytes = ap (λ (j : ℕ). take j line) none })
      (ap₂ ◌++◌ q (appended_text u.text ∙ ap (λ (x : Lister × List ℕ × List ℕ). x.2) both))
  keeps_as p chunk line m m' said out d t g r v e w q (more_of_it y n f h) u =
      let st : Sofar = after p in
      let both : fed_by t m (g, line) ≡ (holding t g.held, m, []) = rw y in
      let rs : v ≡ holding t g.held = u.state ∙ ap (λ (x : Lister × List ℕ × List ℕ). x.0) both in
      keeps_of (p ++ take r.taken chunk) (longer st (st.part ++ chunk)) v line m' (said ++ take r.said out)
      (fed_append (began m₀) p (take r.taken chunk) ∙ ap (fed st) (ap (λ (j : ℕ). take j chunk) (u.taken ∙ n ∙ zero-add (length chunk)) ∙ take-length chunk) ∙ f)
      (ap settled rs ∙ e)
      (u.serials ∙ ap (λ (x : Lister × List ℕ × List ℕ). x.1) both ∙ w)
      (subst (λ (j : ℕ). Holds line j (st.part ++ chunk)) (sym (ap (λ (x : Lister). x.held) rs)) h)
      (ap₂ ◌++◌ q (appended_text u.text ∙ ap (λ (x : Lister × List ℕ × List ℕ). x.2) both) ∙ append-nil st.said)

  -- a chunk, or as much of it as was taken
  pub keeps_more : (p chunk line line' m m' said out d : List ℕ) (t : Lister) (r : Fed) (u : Lister) → Keeps p t line m said → Feeds t m (gathering line t.held 0 chunk) d r u line' m' out
      → Keeps (p ++ take r.taken chunk) u line' m' (said ++ take r.said out)
  keeps_more p chunk line line' m m' said out d t r v h u =
      let g = gathering line t.held 0 chunk in
      let f : Feeds t m (g.0, g.1) d r v g.1 m' out = subst (λ (x : List ℕ). Feeds t m g d r v x m' out) u.line u in
      subst (λ (x : List ℕ). Keeps (p ++ take r.taken chunk) v x m' (said ++ take r.said out)) (sym u.line)
      (keeps_as p chunk g.1 m m' said out d t g.0 r v h.state h.serials h.printed (gathers chunk (after p) line t.held 0 h.held) f)

  -- the end: all that has been printed is the listing
  keeps_end : (q p line m m' said d out e out' : List ℕ) (t u : Lister) (k n : ℕ) → Keeps p t line m said → (after p).part ≡ q → Ends (finishing t m line) d u m' out k → Appended e 0 (closing u) out' n
      → (said ++ take k out) ++ take n out' ≡ all_as (after p) q
  unfolding finishing
  keeps_end [] p line m m' said d out e out' t _ k n h z u v =
      let st : Sofar = after p in
      let none : t.held ≡ 0 = sym (length-take-le t.held line (omega (arith, h.held.few, h.held.room))) ∙ ap length (h.held.bytes ∙ ap (take 2150) z) in
      let fin : finishing t m line ≡ (t, m, []) = rw (eq-eqb t.held 0 none) in
      ap₂ ◌++◌ (ap₂ ◌++◌ h.printed (appended_text u.text ∙ ap (λ (x : Lister × List ℕ × List ℕ). x.2) fin) ∙ append-nil st.said)
      (appended_text v ∙ ap closing (u.state ∙ ap (λ (x : Lister × List ℕ × List ℕ). x.0) fin) ∙ closing_settled t ∙ ap closing h.state)
  keeps_end (b ∷ q) p line m m' said d out e out' t _ k n h z u v =
      let st : Sofar = after p in
      let bytes : take t.held line ≡ take 2150 (b ∷ q) = h.held.bytes ∙ ap (take 2150) z in
      let fin : finishing t m line ≡ brings st (b ∷ q) =
      rw (ne_eqb t.held 0 (λ j. absurd (omega (arith, j, ap length bytes, length-take t.held line, length-take 2150 (b ∷ q)))))
      (ending_same t st.state m st.serials (take t.held line) (b ∷ q) h.state h.serials bytes) in
      ap₂ ◌++◌ (ap₂ ◌++◌ h.printed (appended_text u.text ∙ ap (λ (x : Lister × List ℕ × List ℕ). x.2) fin))
      (appended_text v ∙ ap closing (u.state ∙ ap (λ (x : Lister × List ℕ × List ℕ). x.0) fin))

  pub whole_listing : length m₀ ≡ serials_max → (p line m m' said d out e out' : List ℕ) (t u : Lister) (k n : ℕ) → Keeps p t line m said → Ends (finishing t m line) d u m' out k → Appended e 0 (closing u) out' n
      → (said ++ take k out) ++ take n out' ≡ listing p
  whole_listing room p line m m' said d out e out' t u k n h x y = keeps_end (after p).part p line m m' said d out e out' t u k n h refl x y ∙ reckons m₀ p room

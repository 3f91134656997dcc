-- Demand 2 for a line: it opens exactly when writing some message under that key gives it. And what writing gives is a good line, whose fields are what went in.
use Prim.Native.Nat.{ℕ, ◌+◌, ◌*◌, ◌≤◌}
use mathlib.Core.Path.{◌≡◌, refl, sym, ap, ap₂, ◌∙◌}
use mathlib.Core.List.{List, [], ◌∷◌, ◌++◌, append_assoc}
use native.Mathlib.Omega.{arith}
use lib.ListN.{length, drop, length-append}
use Rattle.words.specs.Digits.{Digits, none, more}
use Rattle.words.proofs.Cases.{by_lt}
use Rattle.std.specs.Prelude.{Ok, Err}
use Rattle.refusals.specs.declared.Refusal.TheVariants.{Line}
use Rattle.refusals.specs.Refusals.{giving}
use Rattle.refusals.proofs.Answers.{not_both, Can, can_refused, can_same, can_give, gives}
use Rattle.cells64.specs.Qarma64.{qarma64}
use Rattle.cipher.specs.Engine.{key_schedule}
use Rattle.frame.specs.Frames.{sealed_size, sealed_bytes, opening, SealedFrom}
use Rattle.frame.proofs.Opening.{sealed_length, sealed_below}
use Rattle.frame.proofs.Limits.{can_limited}
use Rattle.frame.proofs.Demands.{opens, opens_only, no_room, can_five_six}
use Rattle.line.specs.Line.{hex_digits, hex, Frame, Limits, LineOf, line_of, GoodLine, Place, Reading, not_line, placed, fields_of, Reads, fields, refused}
use Rattle.line.specs.Reader.{number_at, bytes_at, reading}
use Rattle.line.specs.Calls.{frame_of, writing, opening_as, opening_line, WrittenFrom}
use Rattle.line.specs.Workings.{line_size}
use Rattle.line.proofs.Hex.{num_digits, length_hex, length_hex_digits, shown, line_shown}
use Rattle.line.proofs.Places.{reads_reading, reading_reads}
use Rattle.line.proofs.Writing.{line_length_lem}
use Rattle.line.proofs.Calls.{writes}

-- the bytes whose digits stand behind xs
bytes_hex : (xs ys : List ℕ) (p : ℕ) {l : List ℕ} → length xs ≡ p → Digits 8 l → bytes_at (xs ++ (hex l ++ ys)) p (length l) ≡ l
unfolding hex
bytes_hex xs ys p e none = refl
bytes_hex xs ys p e (more {d = b} {ds = l} hb h) =
    let here : xs ++ ((hex_digits 2 b ++ hex l) ++ ys) ≡ xs ++ (hex_digits 2 b ++ (hex l ++ ys)) = ap (λ (z : List ℕ). xs ++ z) (append_assoc (hex_digits 2 b) (hex l) ys) in
    let there : xs ++ (hex_digits 2 b ++ (hex l ++ ys)) ≡ (xs ++ hex_digits 2 b) ++ (hex l ++ ys) = sym (append_assoc xs (hex_digits 2 b) (hex l ++ ys)) in
    ap₂ ◌∷◌ (ap (λ (z : List ℕ). number_at z p 2) here ∙ num_digits xs (hex l ++ ys) p 2 b e hb)
    (ap (λ (z : List ℕ). bytes_at z (p + 2) (length l)) (here ∙ there)
    ∙ bytes_hex (xs ++ hex_digits 2 b) ys (p + 2) (length-append xs (hex_digits 2 b) ∙ ap₂ ◌+◌ e (length_hex_digits 2 b)) h)

module _ (f : Frame) (h : Limits f) where
  head : List ℕ
  head = 48 ∷ 49 ∷ 48 ∷ (hex_digits 11 f.serial ++ (hex_digits 2 (length f.label) ++ hex_digits 4 f.message_length))

  head_length : length head ≡ 20
  unfolding head
  head_length = simp (length-append, length_hex_digits)

  line_head : line_of f ≡ head ++ (hex f.label ++ (hex f.sealed ++ (10 ∷ [])))
  unfolding head shown
  line_head = line_shown f (omega (arith, h.within.serial)) ∙ simp append_assoc

  label_is : bytes_at (line_of f) 20 (length f.label) ≡ f.label
  label_is = ap (λ (z : List ℕ). bytes_at z 20 (length f.label)) line_head ∙ bytes_hex head (hex f.sealed ++ (10 ∷ [])) 20 head_length h.label_bytes

  sealed_is : bytes_at (line_of f) (20 + 2 * length f.label) (sealed_size f.message_length) ≡ f.sealed
  sealed_is =
      ap₂ (λ (z : List ℕ) (n : ℕ). bytes_at z (20 + 2 * length f.label) n) (line_head ∙ sym (append_assoc head (hex f.label) (hex f.sealed ++ (10 ∷ [])))) (sym h.sealed)
      ∙ bytes_hex (head ++ hex f.label) (10 ∷ []) (20 + 2 * length f.label) (length-append head (hex f.label) ∙ ap₂ ◌+◌ head_length (length_hex f.label)) h.sealed_are_bytes

-- opening a good line passes on what opening its frame gives
pub passes_on : (w0 k0 : ℕ) (s out : List ℕ) (f : Frame) → LineOf s f → opening_line w0 k0 s out ≡ opening w0 k0 f.serial f.message_length f.label f.sealed out
unfolding opening_line
passes_on w0 k0 s out f l =
    ap (λ (r : Reading). opening_as w0 k0 s r out) (sym (reads_reading s (fields_of f) (fields f l)))
    ∙ ap₂ (λ (a c : List ℕ). opening w0 k0 f.serial f.message_length a c out)
    (ap (λ (z : List ℕ). bytes_at z 20 (length f.label)) l.line ∙ label_is f l.limits)
    (ap (λ (z : List ℕ). bytes_at z (20 + 2 * length f.label) (sealed_size f.message_length)) l.line ∙ sealed_is f l.limits)

-- and another line is refused, 7, with its place
pub not_a_line : (w0 k0 : ℕ) (s out : List ℕ) (k : ℕ) → Place s k → opening_line w0 k0 s out ≡ (Err (Line k), out)
unfolding opening_line
not_a_line w0 k0 s out k p = ap (λ (r : Reading). opening_as w0 k0 s r out) (sym (reads_reading s (not_line k) (refused k p)))

-- "A line is 37 to 2,149 bytes with its end."
pub line_sizes : (s : List ℕ) → GoodLine s → (37 ≤ length s) × (length s ≤ 2149)
line_sizes s (f, l) =
    let size : length s ≡ line_size (length f.label) (length f.sealed) = ap length l.line ∙ line_length_lem f in
    let h = l.limits in
    (omega (arith, size, h.sealed), omega (arith, size, h.sealed, h.within.label, h.within.message))

-- "Writing a line .. can give 2, 3, 5"
pub write_can : (w0 k0 serial : ℕ) (a m out : List ℕ) → Can (2 ∷ 3 ∷ 5 ∷ []) out (writing w0 k0 serial a m out)
unfolding writing
write_can w0 k0 serial a m out = can_limited _ _ _ refl refl (can_give _ refl)

-- opening a line can give 7, 5, 6: what the reader takes is inside the limits and has the right number of sealed bytes
pub open_line_can : (w0 k0 : ℕ) (s out : List ℕ) → Can (7 ∷ 5 ∷ 6 ∷ []) out (opening_line w0 k0 s out)
open_line_can w0 k0 s out = go (reading s) (reading_reads s)
  where
    go : (r : Reading) → Reads s r → Can (7 ∷ 5 ∷ 6 ∷ []) out (opening_line w0 k0 s out)
    go r (refused k p) = can_same (not_a_line w0 k0 s out k p) (can_refused (Line k) refl)
    go r (fields f l) =
        let h = l.limits in
        can_same (passes_on w0 k0 s out f l)
        (can_five_six w0 k0 f.serial f.label f.message_length f.sealed out h.within refl refl h.sealed)

module _ {w0 k0 : ℕ} {s : List ℕ} where
  -- what is written is a good line, whose fields are what went in
  abbrev frame_from : WrittenFrom w0 k0 s → Frame
  frame_from x = frame_of x.serial x.label (length x.message) (sealed_bytes (key_schedule qarma64 w0 k0) x.serial x.label x.message)

  pub written_good : (x : WrittenFrom w0 k0 s) → LineOf s (frame_from x)
  written_good x =
      record {
        limits =
            record {
              within = x.within;
              sealed = sealed_length (key_schedule qarma64 w0 k0) x.serial x.label x.message;
              label_bytes = x.label_bytes;
              sealed_are_bytes = sealed_below (key_schedule qarma64 w0 k0) x.serial x.label x.message;
            };
        line = x.line;
      }

  pub written_reads : (x : WrittenFrom w0 k0 s) → reading s ≡ placed x.serial (length x.label) (length x.message)
  written_reads x = sym (reads_reading s (fields_of (frame_from x)) (fields (frame_from x) (written_good x)))

  -- writing gives it, where there is room
  pub writes_line : (x : WrittenFrom w0 k0 s) (out : List ℕ) → length s ≤ length out → writing w0 k0 x.serial x.label x.message out ≡ (Ok (length s), s ++ drop (length s) out)
  writes_line x out room =
      sym (gives s out (length s) refl room ∙ ap (λ (l : List ℕ). giving l out) x.line ∙ writes w0 k0 x.serial x.label x.message out x.within)

  -- a line that writing gives opens to its message
  pub line_opens : (x : WrittenFrom w0 k0 s) (out : List ℕ) → length x.message ≤ length out
      → opening_line w0 k0 s out ≡ (Ok (length x.message), x.message ++ drop (length x.message) out)
  line_opens x out room =
      passes_on w0 k0 s out (frame_from x) (written_good x)
      ∙ opens w0 k0 x.serial x.label (length x.message) (sealed_bytes (key_schedule qarma64 w0 k0) x.serial x.label x.message) out x.within room
      (record { message = x.message; bytes = x.message_bytes; size = refl; sealed = refl })

  -- and no other line opens
  opened_as : (out : List ℕ) (r : Reading) → Reads s r → (k : ℕ) (o : List ℕ) → opening_line w0 k0 s out ≡ (Ok k, o) → WrittenFrom w0 k0 s
  opened_as out r (refused p q) k o e = absurd (not_both (sym e ∙ not_a_line w0 k0 s out p q))
  opened_as out r (fields f l) k o e =
      let h = l.limits in
      let w = h.within in
      let opened : opening w0 k0 f.serial f.message_length f.label f.sealed out ≡ (Ok k, o) = sym (passes_on w0 k0 s out f l) ∙ e in
      let x : SealedFrom (key_schedule qarma64 w0 k0) f.serial f.label f.message_length f.sealed =
      by_lt (length out) f.message_length
      (λ z. absurd (not_both (sym opened ∙ no_room w0 k0 f.serial f.label f.message_length f.sealed out w h.sealed z)))
      (λ z. opens_only w0 k0 f.serial f.label f.message_length f.sealed out w z h.sealed_are_bytes k o opened)
      in
      record {
        serial = f.serial;
        label = f.label;
        message = x.message;
        label_bytes = h.label_bytes;
        message_bytes = x.bytes;
        within = record { message = omega (arith, x.size, w.message); label = w.label; serial = w.serial };
        line = l.line ∙ ap₂ (λ (n : ℕ) (c : List ℕ). line_of (frame_of f.serial f.label n c)) (sym x.size) (sym x.sealed);
      }

  pub line_opens_only : (out : List ℕ) (k : ℕ) (o : List ℕ) → opening_line w0 k0 s out ≡ (Ok k, o) → WrittenFrom w0 k0 s
  line_opens_only out k o e = opened_as out (reading s) (reading_reads s) k o e

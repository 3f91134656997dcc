-- The first 2,150 bytes of a line decide.
use Prim.Native.Nat.{ℕ, zero, suc, ◌+◌, ◌*◌, ◌≤◌}
use mathlib.Core.Path.{◌≡◌, refl, sym, ap, ap₂, ◌∙◌}
use mathlib.Core.List.{List}
use native.Mathlib.Nat.{le_refl}
use native.Mathlib.Omega.{arith}
use lib.ListN.{length, take, replicate, length-take}
use lib.Seq.{take_all, get_or-take}
use Rattle.words.proofs.Cases.{by_lt}
use Rattle.line.specs.Reader.{hex_value, number_at, serial_of}
use Rattle.line.specs.Calls.{opening_as, opening_line}
use Rattle.line.specs.Line.{Reading}
use Rattle.line.proofs.Ends.{long_line, long_bad}
use Rattle.listing.specs.Listing.{answer_of}
use Rattle.listing.specs.Chunks.{key_of}
use Rattle.listing.proofs.Keys.{other_length, key_bad}

pub long_answer : (w0 k0 : ℕ) (l : List ℕ) → answer_of w0 k0 (take 2150 l) ≡ answer_of w0 k0 l
unfolding answer_of opening_line
long_answer w0 k0 l =
    by_lt (length l) 2150
    (λ h. ap (λ (x : List ℕ). (opening_line w0 k0 x (replicate 1024 0)).0) (take_all 2150 l (omega arith)))
    (λ h.
    let short = long_bad l h in
    ap (λ (r : Reading). (opening_as w0 k0 (take 2150 l) r (replicate 1024 0)).0) (long_line l 2150 (le_refl 2150) ∙ short)
    ∙ sym (ap (λ (r : Reading). (opening_as w0 k0 l r (replicate 1024 0)).0) short))

num_take : (l : List ℕ) (k a n : ℕ) → a + n ≤ k → number_at (take k l) a n ≡ number_at l a n
unfolding number_at
num_take l k a zero h = refl
num_take l k a (suc n) h = ap₂ (λ (x y : ℕ). x * 16 + hex_value y) (num_take l k a n (omega arith)) (get_or-take k l (a + n) 48 (omega arith))

pub long_serial : (l : List ℕ) → serial_of (take 2150 l) ≡ serial_of l
long_serial l = num_take l 2150 3 11 (omega arith)

pub long_key : (l : List ℕ) → key_of (take 2150 l) ≡ key_of l
long_key l =
    by_lt (length l) 2150
    (λ h. ap key_of (take_all 2150 l (omega arith)))
    (λ h.
    sym (key_bad (take 2150 l) (sym (other_length (take 2150 l) (λ e. absurd (omega (arith, length-take 2150 l, e))))))
    ∙ key_bad l (sym (other_length l (λ e. absurd (omega (arith, e))))))

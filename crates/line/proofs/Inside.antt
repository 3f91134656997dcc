-- What a caller learns of the fields that were read: where the parts stand, all inside the line.
use Prim.Native.Nat.{ℕ, ◌+◌, ◌*◌, ◌^◌, ◌≤◌, ◌<◌}
use mathlib.Core.Path.{◌≡◌, refl, subst}
use mathlib.Core.List.{List}
use mathlib.Core.Bool.{Bool, true, false, cond}
use native.Mathlib.Omega.{arith}
use lib.ListN.{length, get_or}
use Rattle.std.specs.Prelude.{Ok}
use Rattle.line.specs.declared.Fields.{Fields}
use Rattle.line.proofs.Shape.{Whole}
use Rattle.line.proofs.Good.{good_digit, serial_below}
use Rattle.line.proofs.Written.{good_whole}
use Rattle.frame.specs.Frames.{sealed_size}
use Rattle.line.specs.Line.{not_line, placed}
use Rattle.line.specs.Reader.{hex_value, serial_of, label_length, message_length, place, good, reading}
use Rattle.line.proofs.Places.{line_good}

pub record Inside (s : List ℕ) (f : Fields) : Type 0 where
  pub number : f.serial ≡ serial_of s
  pub serial : f.serial < 2 ^ 44
  pub label : f.label_length ≤ 32
  pub message : f.message_length ≤ 1024
  pub label_at : f.label_place ≡ 20
  pub sealed_at : f.sealed_place ≡ 20 + 2 * f.label_length
  pub size : length s ≡ f.sealed_place + 2 * sealed_size f.message_length + 1
  pub digits : (i : ℕ) → 3 ≤ i → i + 1 < length s → hex_value (get_or s i 48) < 16

pub fields_inside : (s : List ℕ) (f : Fields) → reading s ≡ Ok f → Inside s f
unfolding reading
fields_inside s f h = go (good s) refl h
  where
    go : (t : Bool) → good s ≡ t → cond t (placed (serial_of s) (label_length s) (message_length s)) (not_line (place s)) ≡ Ok f → Inside s f
    go false q p = let z : ◌≡◌ {A = ℕ} 0 1 = cc in absurd (omega (arith, z))
    go true q p =
        let w : Whole s = good_whole s (line_good s q) in
        let e : record { serial = serial_of s; label_length = label_length s; message_length = message_length s; label_place = 20; sealed_place = 20 + 2 * label_length s } ≡ f = cc in
        subst (Inside s) e (record {
          number = refl;
          serial = serial_below s w;
          label = w.shape.label;
          message = w.shape.message;
          label_at = refl;
          sealed_at = refl;
          size = omega (arith, w.whole);
          digits = λ i l h. good_digit s w i l (omega (arith, w.whole));
        })

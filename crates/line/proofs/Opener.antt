-- What opening a line answers, from its reading.
use Prim.Native.Nat.{ℕ, ◌+◌, ◌*◌, ◌≤◌, ◌<◌}
use mathlib.Core.Path.{◌≡◌, sym, ap, ◌∙◌}
use mathlib.Core.List.{List}
use native.Mathlib.Omega.{arith}
use lib.ListN.{length}
use Rattle.std.specs.Prelude.{Ok}
use Rattle.refusals.specs.Refusals.{Answer}
use Rattle.frame.specs.Frames.{sealed_size, opening}
use Rattle.line.specs.Line.{Reading, Reads}
use Rattle.line.specs.Reader.{number_at, bytes_at}
use Rattle.line.specs.Calls.{opening_as, opening_line}
use Rattle.line.specs.Workings.{FieldsRead}
use Rattle.line.specs.declared.Fields.{Fields}
use Rattle.line.proofs.Good.{num_below}
use Rattle.line.proofs.Places.{reads_reading}
use Rattle.line.proofs.Inside.{fields_inside}

-- the reading that was given decides
pub opened_so : (w0 k0 : ℕ) (s out : List ℕ) (r : Reading) → Reads s r → opening_as w0 k0 s r out ≡ opening_line w0 k0 s out
unfolding opening_line
opened_so w0 k0 s out r h = ap (λ (x : Reading). opening_as w0 k0 s x out) (reads_reading s r h)

-- fields that were read are inside the limits, and digits stand at their places
pub fields_read : (s : List ℕ) (f : Fields) → Reads s (Ok f) → FieldsRead s f
fields_read s f h =
    let i = fields_inside s f (sym (reads_reading s (Ok f) h)) in
    let byte : (p : ℕ) → 20 ≤ p → p + 2 < length s → number_at s p 2 < 256 = λ p x y. num_below s p 2 (λ j u v. i.digits j (omega arith) (omega arith)) in
    record {
      message_fits = i.message;
      label_fits = i.label;
      label_at = omega (arith, i.label_at);
      sealed_at = omega (arith, i.sealed_at, i.label);
      label_bytes = λ k u. byte (f.label_place + 2 * k) (omega (arith, i.label_at)) (omega (arith, i.label_at, i.sealed_at, i.size));
      sealed_are_bytes = λ k u. byte (f.sealed_place + 2 * k) (omega (arith, i.sealed_at)) (omega (arith, i.size));
    }

-- so a line whose fields were read is opened as its frame is
pub fields_line : (s : List ℕ) (f : Fields) → Reads s (Ok f) → (w0 k0 : ℕ) (out : List ℕ) (x : Answer × List ℕ) → x ≡ opening w0 k0 f.serial f.message_length (bytes_at s f.label_place f.label_length) (bytes_at s f.sealed_place (sealed_size f.message_length)) out → x ≡ opening_line w0 k0 s out
fields_line s f h w0 k0 out x q = q ∙ opened_so w0 k0 s out (Ok f) h

-- `line::read` meets its contract: what it answers is `reading`, and that is what the paper asks for. Assumes nothing.
use mathlib.Core.Path.{◌≡◌, sym, subst}
use mathlib.Core.List.{List}
use Prim.Native.Nat.{ℕ}
use native.Mathlib.Omega.{arith}
use borrow.Author.Rules.{rules}
use Rattle.line.specs.Line.{Reading, Reads}
use Rattle.line.specs.Reader.{reading}
use Rattle.line.proofs.Places.{read_wrong, read_short, read_good, reading_reads}
use Rattle.line.proofs.read.Goals as goal
use Rattle.line.proofs.read.Goals.{then-k-s-via-then-k-s, then-k-s-via-else-k-s+then-k-end_of}

so : (s : List ℕ) (r : Reading) → r ≡ reading s → Reads s r
so s r e = subst (Reads s) (sym e) (reading_reads s)

-- a byte may not stand where it stands, or the line is cut short
pub returns-then-k-s : goal.returns-then-k-s
returns-then-k-s c =
    elim c.then-k-s.branch [
      | then-k-s-via-then-k-s w ↦ so _ _ (read_wrong _ _ (search rules) (omega arith))
      | then-k-s-via-else-k-s+then-k-end_of w ↦ so _ _ (read_short _ _ (search rules) (omega arith) (λ e. w.if-k-end_of.true (omega arith)))
    ]

pub returns : goal.returns
returns c = so _ _ (read_good _ c.first_place-k.result _ _ _ c.first_place-k.ensures.0 (omega arith) (omega arith) c.number_at.ensures c.label_length-l.ensures.0 c.message_length.ensures.0)

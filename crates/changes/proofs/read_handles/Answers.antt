-- `changes::read_handles` meets its contract: the handles in their places and those of the lines that are left are all.
use native.Mathlib.Omega.{arith}
use Prim.Native.Nat.{ℕ, ◌<◌}
use lib.ListN.{length}
use mathlib.Core.Path.{◌≡◌, refl, ap, subst}
use Rattle.std.proofs.Common.{rules}
use Rattle.std.specs.Result.{IsErrAnd, MatchResult}
use Rattle.std.specs.Prelude.{Result, Ok, Err}
use Rattle.line.specs.Line.{Reading}
use Rattle.line.specs.declared.Fields.{Fields}
use Rattle.line.specs.declared.NotLine.{NotLine}
use Rattle.changes.specs.Compare.{Good, line_as}
use Rattle.changes.specs.declared.Fault.{Fault}
use Rattle.std.proofs.lemmas.Result.{err_from_is_err_and}
use Rattle.texts.proofs.Lines.{line_within}
use Rattle.changes.proofs.Handles.{handles_none, handles_within, handles_refused, serial_small, handles_more, handles_all}
use Rattle.changes.proofs.read_handles.Goals as goal

pub loop-n-init : goal.loop-n-init
loop-n-init c = let p = c.requires in handles_none _ _ p.0 p.1.0 p.1.1

pub line_end-end-requires : goal.line_end-end-requires
line_end-end-requires c = c.loop-n.invariant.within

pub slice_bounds-read-end : goal.slice_bounds-read-end
slice_bounds-read-end c = let w = line_within _ _ (handles_within _ _ _ _ c.loop-n.invariant (omega arith)) in omega (arith, w.1, c.line_end-end.ensures)

-- what `map_err` made of a reading
module _ (P : NotLine → Fault → Type 0) where
  read_ok : (r : Reading) (m : Result Fields Fault) (f : Fields) → MatchResult r (λ x. m ≡ Ok x) (λ e. IsErrAnd m (P e)) → m ≡ Ok f → r ≡ Ok f
  read_ok (Ok x) m f h w = let q : x ≡ f = cc in ap Ok q
  read_ok (Err e) m f h w = absurd (subst (λ (z : Result Fields Fault). IsErrAnd z (P e)) w h)

  read_err : (r : Reading) (m : Result Fields Fault) (x : Fault) → MatchResult r (λ y. m ≡ Ok y) (λ e. IsErrAnd m (P e)) → m ≡ Err x → (e : NotLine) × (r ≡ Err e) × P e x
  read_err (Ok y) m x h w = let z : ◌≡◌ {A = ℕ} 0 1 = cc in absurd (omega arith)
  read_err (Err e) m x h w = (e, refl, subst (λ (z : Result Fields Fault). IsErrAnd z (P e)) w h)

pub returns-in_err-fields : goal.returns-in_err-fields
returns-in_err-fields c =
    let p = err_from_is_err_and c.from_residual.result c.from_residual.ensures.1 in
    let (e, is, made) = read_err _ _ _ _ c.map_err.ensures.cases c.in_err-fields.was in
    let bad : Err c.in_err-fields.field-0.0 ≡ line_as c.loop-n.n-counter (Err e) Good = search rules in
    let here : c.loop-n.n-counter < length c.loop-n.handles = omega arith in
    rw (p.1, p.2) (handles_refused c.args.s.now c.loop-n.handles c.loop-n.at c.loop-n.n-counter c.line_end-end.result c.loop-n.invariant here c.line_end-end.ensures _ c.read.ensures c.in_err-fields.field-0.0 e is bad)

pub overflow_mul-handles : goal.overflow_mul-handles
overflow_mul-handles c = omega (arith, serial_small _ _ _ c.loop-n.n-counter _ c.loop-n.invariant (omega arith) c.line_end-end.ensures _ c.read.ensures _ (read_ok _ _ _ _ c.map_err.ensures.cases c.in_ok-fields.was))

pub overflow_add-handles : goal.overflow_add-handles
overflow_add-handles c = omega (arith, serial_small _ _ _ c.loop-n.n-counter _ c.loop-n.invariant (omega arith) c.line_end-end.ensures _ c.read.ensures _ (read_ok _ _ _ _ c.map_err.ensures.cases c.in_ok-fields.was), c.loop-n.invariant.small)

pub loop-n-preserved : goal.loop-n-preserved
loop-n-preserved c = handles_more _ _ _ c.loop-n.n-counter _ c.loop-n.invariant (omega arith) c.line_end-end.ensures _ c.read.ensures _ (read_ok _ _ _ _ c.map_err.ensures.cases c.in_ok-fields.was)

pub returns : goal.returns
returns c = handles_all _ _ _ _ c.loop-n.invariant (omega arith)

-- `report` meets its contract: as many bytes are printed as were written.
use Prim.Native.Nat.{ℕ, ◌≤◌}
use mathlib.Core.Path.{◌≡◌, sym, ap, subst, ◌∙◌}
use mathlib.Core.List.{List}
use lib.ListN.{length}
use Rattle.std.specs.Prelude.{Ok}
use Rattle.sorting.proofs.Turns.{head_part}
use Rattle.changes.specs.Compare.{comparing}
use Rattle.changes.specs.declared.Compared.{Compared}
use Rattle.changes.proofs.Refused.{wrote_within}
use Rattle.compare.proofs.report.Goals as goal

-- what was written fits
fits : (first second out made : List ℕ) (c : Compared) (n : ℕ) → length made ≡ length out → (c, made) ≡ comparing first second out → c.answer ≡ Ok n → n ≤ length made
fits first second out made c n size e w =
    subst (λ (k : ℕ). n ≤ k) (sym size) (wrote_within first second out n (sym (ap (λ (x : Compared × List ℕ). x.0.answer) e) ∙ w))

pub slice_bounds-out-end : goal.slice_bounds-out-end
slice_bounds-out-end g c = let made = c.compare-c in fits _ _ _ made.new.out made.result c.in-Ok.count made.auto.out made.ensures c.in-Ok.is

pub slice_bounds-write_all-end : goal.slice_bounds-write_all-end
slice_bounds-write_all-end g c =
    let made = c.compare-c in head_part _ _ (fits _ _ _ made.new.out made.result c.in-Ok.count made.auto.out made.ensures c.in-Ok.is)

-- The listing's answers stay within their bounds, and its texts are short.
use Rattle.std.proofs.Common.{arith, ap}
use Rattle.listing.specs.declared.Lister.{Lister}
use Rattle.listing.proofs.Bounds.{finish_bounded, next_kept}
use Rattle.checker.proofs.Checker.close.Goals as goal

pub invariant_of-self : goal.invariant_of-self
invariant_of-self g c =
    let s = c.flush.new.self in
    let b = finish_bounded s.line s.serials s.kept s.remembers c.finish-self.ensures in
    record {
      kept = next_kept (omega (arith, c.requires, ap (λ (t : Lister). t.lines) c.flush.ensures.0)) b;
      remembers = b.serials;
      within = omega (arith, b.said);
    }

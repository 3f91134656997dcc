-- The listing's answers stay within their bounds.
use Rattle.std.proofs.Common.{arith, ap}
use Rattle.listing.specs.declared.Lister.{Lister}
use Rattle.listing.proofs.Bounds.{feed_bounded, feed_taken, next_kept}
use Rattle.checker.proofs.Checker.feed_line.Goals as goal

pub invariant_of-self : goal.invariant_of-self
invariant_of-self g c =
    let s = c.make_room.new.self in
    let b = feed_bounded c.args.chunk.now s.line s.serials s.kept s.remembers c.feed-fed.ensures in
    record {
      kept = next_kept (omega (arith, c.requires.0, ap (λ (t : Lister). t.lines) c.make_room.ensures.0)) b;
      remembers = b.serials;
      within = omega (arith, b.said, c.in_ok-make_room.ensures.1);
    }

pub returns : goal.returns
returns g c =
    let s = c.make_room.new.self in
    let b = feed_bounded c.args.chunk.now s.line s.serials s.kept s.remembers c.feed-fed.ensures in
    let taken = feed_taken c.args.chunk.now s.line s.serials s.kept c.feed-fed.ensures in
    (omega (arith, b.lines, ap (λ (t : Lister). t.lines) c.make_room.ensures.0), (taken.1 (omega (arith, c.requires.1)), taken.0))

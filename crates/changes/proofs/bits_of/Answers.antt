-- `changes::bits_of` meets its contract: the bits counted and those that are left are all.
use native.Mathlib.Omega.{arith}
use lib.ListN.{length, length-append}
use Rattle.std.proofs.Common.{rules}
use Rattle.std.proofs.lemmas.Slice.Zip.{zip_turn, zip_end}
use Rattle.changes.proofs.Pairs.{bits_next, bits_all}
use Rattle.changes.proofs.bits_of.Goals as goal

pub loop-x-preserved : goal.loop-x-preserved
loop-x-preserved c =
    let t = zip_turn c.args.a.now c.args.b.now _ _ _ c.next.new.self _ (cc) (cc) c.loop-x.yielded_by _ c.in-Some.is c.next.ensures.steps in
    bits_next _ _ (length c.loop-x.yielded) _ c.loop-x.invariant _ _ _ t.0 (t.2 0) (t.3 0) (search rules) (search rules) (simp length-append)

pub returns : goal.returns
returns c =
    let n = zip_end c.args.a.now c.args.b.now _ _ _ c.next.new.self _ (cc) (cc) c.loop-x.yielded_by c.in-None.is c.next.ensures.steps in
    bits_all _ _ _ _ c.loop-x.invariant (omega (arith, n, c.loop-x.invariant.size))

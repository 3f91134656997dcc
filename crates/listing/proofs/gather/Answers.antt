-- `listing::gather` meets its contract: what is left of the chunk gives the whole.
use borrow.Author.Rules.{rules}
use mathlib.Core.Path.{refl}
use native.Mathlib.Omega.{arith}
use Rattle.listing.proofs.Gathering.{gather_ended, gather_more, gather_none}
use Rattle.listing.proofs.gather.Goals as goal

pub returns-then-b-eq10 : goal.returns-then-b-eq10
returns-then-b-eq10 c =
    let put = c.push-h.ensures in
    let loop = c.loop-i in
    (rw (put.0, put.1) (gather_ended _ _ _ _ _ loop.invariant.2 _ (omega arith) refl c.if-b-eq10.true), put.2)

pub loop-i-preserved : goal.loop-i-preserved
loop-i-preserved c =
    let put = c.push-h.ensures in
    let loop = c.loop-i in
    (put.2, search rules, rw (put.0, put.1) (gather_more loop.line c.args.chunk.now loop.h loop.i _ loop.invariant.2 _ (omega arith) refl c.if-b-eq10.false))

pub returns : goal.returns
returns c = (gather_none _ _ _ c.loop-i.i _ c.loop-i.invariant.2 (omega arith), omega arith)

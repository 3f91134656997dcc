-- `four` meets its contract: each word is a pair.
use Rattle.kkurimyeot.proofs.four.Goals as goal

pub returns : goal.returns
returns c = λ i. record { w0 = c.pair.ensures i; w1 = c.pair-2.ensures i; k0 = c.pair-3.ensures i; k1 = c.pair-4.ensures i }

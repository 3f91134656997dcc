-- `kk128_encipher` meets its contract: what the cipher answers, through C.
use Rattle.refusals.specs.declared.Refusal.{Refusal}
use Rattle.std.specs.Prelude.{Result}
use Rattle.cells128.specs.declared.Pair.{Pair}
use mathlib.Core.Path.{ap, ◌∙◌}
use Rattle.cipher.specs.Numbers.{encipher_call}
use Rattle.cipher128.specs.Words.{form128}
use Rattle.cells128.specs.declared.Pair.{Pair}
use Rattle.kkurimyeot.specs.Calls.{block_given128, returning}
use Rattle.kkurimyeot.proofs.kk128_encipher.Goals as goal

pub returns : goal.returns
returns c =
    let args = c.args in
    c.give_block.ensures
    ∙ ap (λ (b : Result Pair Refusal). returning (block_given128 b args.out.now))
    (c.encipher.ensures ∙ λ i. encipher_call form128 args.number args.rounds (c.key-key.ensures i) (c.pair-tweak.ensures i) (c.pair-block.ensures i))

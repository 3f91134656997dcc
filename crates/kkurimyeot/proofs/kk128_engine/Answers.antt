-- `kk128_engine` meets its contract: what the cipher answers, through C.
use Rattle.refusals.specs.declared.Refusal.{Refusal}
use Rattle.std.specs.Prelude.{Result}
use Rattle.cells128.specs.declared.Pair.{Pair}
use mathlib.Core.Path.{ap, ◌∙◌}
use Rattle.cipher128.specs.Words.{engine_call}
use Rattle.cells128.specs.declared.Pair.{Pair}
use Rattle.kkurimyeot.specs.Calls.{block_given128, returning}
use Rattle.kkurimyeot.proofs.kk128_engine.Goals as goal

pub returns : goal.returns
returns c =
    let args = c.args in
    c.give_block.ensures
    ∙ ap (λ (b : Result Pair Refusal). returning (block_given128 b args.out.now))
    (c.engine.ensures ∙ λ i. engine_call args.number args.rounds (c.four-words.ensures i) (c.pair-tweak.ensures i) (c.pair-block.ensures i))

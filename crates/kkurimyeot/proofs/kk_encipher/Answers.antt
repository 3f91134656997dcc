-- `kk_encipher` meets its contract: what the cipher answers, through C.
use Rattle.refusals.specs.declared.Refusal.{Refusal}
use Rattle.std.specs.Prelude.{ℕ, Result}
use mathlib.Core.Path.{ap, ◌∙◌}
use Rattle.kkurimyeot.specs.Calls.{block_given, returning}
use Rattle.kkurimyeot.proofs.kk_encipher.Goals as goal

pub returns : goal.returns
returns c =
    let out = c.args.out.now in
    c.give_block.ensures ∙ ap (λ (b : Result ℕ Refusal). returning (block_given b out)) c.encipher.ensures

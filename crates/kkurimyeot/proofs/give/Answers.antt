-- `give` meets its contract: the test gives the case.
use mathlib.Core.Path.{ap, ◌∙◌}
use Prim.Native.Nat.{◌*◌}
use native.Mathlib.Omega.{arith}
use lib.ListN.{length}
use Rattle.std.specs.Prelude.{Ok}
use Rattle.kkurimyeot.proofs.Returns.{words_fit, words_short}
use Rattle.kkurimyeot.proofs.give.Goals as goal

pub returns-then-out-size : goal.returns-then-out-size
returns-then-out-size c = words_short _ _ (omega arith)

pub returns : goal.returns
returns c = ap (λ l. (Ok (length c.args.list.now * 8), l)) c.put.ensures ∙ words_fit _ _ (omega arith)

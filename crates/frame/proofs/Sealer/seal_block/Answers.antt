-- `seal_block` meets its contract: the block under its tweak, with the purpose that what filling added gives it.
use mathlib.Core.Path.{◌≡◌, ap, ap₂, ◌∙◌}
use Prim.Native.Nat.{ℕ, ◌+◌}
use native.Mathlib.Omega.{arith}
use Rattle.words.proofs.Cases.{le_case, gt_case}
use Rattle.frame.specs.Blocks.{number, tweak, purpose}
use Rattle.frame.specs.Frames.{frame_engine}
use Rattle.frame.specs.declared.Filled.{Filled}
use Rattle.frame.proofs.Sealer.seal_block.Goals as goal
use Rattle.frame.proofs.Sealer.seal_block.Goals.{then-block-eq0, else-block-eq0}

-- the purpose is chosen by what filling added, in either case
pub returns : goal.returns
unfolding purpose
returns c =
    let args = c.args in
    let self = args.self in
    let whole = number args.whole in
    let block = c.fill_block-block in
    let choice = c.if-block-eq0 in
    let chosen : number choice.purpose ≡ purpose whole block.result.added =
    elim choice.branch [
      | then-block-eq0 w ↦ ap number w.purpose-is ∙ le_case block.result.added 0 whole (whole + 1) (omega arith)
      | else-block-eq0 w ↦ ap number w.purpose-is ∙ c.requires.0.0 ∙ gt_case block.result.added 0 whole (whole + 1) (omega arith)
    ] in
    let t = ap (λ (p : ℕ). tweak p self.serial args.i) (chosen ∙ ap (λ (b : Filled). purpose whole b.added) block.ensures) in
    let w = ap (λ (b : Filled). b.word) block.ensures in
    let e = c.engine-w.ensures ∙ ap₂ (frame_engine self.schedule.now) t w in
    λ i. record { from = w i; to = e i }

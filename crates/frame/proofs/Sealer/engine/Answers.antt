-- `engine` meets its contract: the engine on the cells of tweak and block.
use native.Mathlib.Omega.{arith}
use Rattle.cells64.proofs.Lawful64.{lawful64}
use Rattle.cells.proofs.Words.{cut_below}
use Rattle.cipher.proofs.Turning.{engine_below}
use Rattle.frame.proofs.Sealer.engine.Goals as goal

pub engine_on_cells-cells-requires : goal.engine_on_cells-cells-requires
engine_on_cells-cells-requires c = ((omega arith, omega arith), (c.args.self.below, (rw c.of.ensures (cut_below 4 _), rw c.of-2.ensures (cut_below 4 _))))

pub word-requires : goal.word-requires
word-requires c = rw (c.engine_on_cells-cells.ensures, c.of.ensures, c.of-2.ensures) (engine_below lawful64 c.args.self.below (omega arith) _ (cut_below 4 _) (cut_below 4 _))

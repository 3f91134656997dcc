-- `open_block` meets its contract: the sealed block under its tweak.
use Prim.Native.Nat.{◌*◌}
use lib.Dec.{lit<}
use Rattle.words.proofs.Laws.{bytes, part_fits}
use Rattle.frame.proofs.Sealer.open_block.Goals as goal

pub read-block-requires : goal.read-block-requires
read-block-requires c = (lit< tt, part_fits (c.args.i * 8) (bytes c.args.sealed.now c.type_inv.sealed))

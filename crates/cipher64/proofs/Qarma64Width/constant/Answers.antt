-- `constant` meets its contract: the table computes to the cells of the words.
use Rattle.cipher64.proofs.Constants.{constant_is}
use Rattle.cipher64.proofs.Qarma64Width.constant.Goals as goal

pub returns : goal.returns
returns c = constant_is c.args.i c.requires

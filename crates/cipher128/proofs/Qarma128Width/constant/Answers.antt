-- `constant` meets its contract: the table computes to the squares of the words.
use Rattle.std.proofs.Common.{◌∙◌}
use Rattle.cipher128.proofs.Constants.{constant_is}
use Rattle.cipher128.proofs.Qarma128Width.constant.Goals as goal

pub returns : goal.returns
returns c = c.of_rows.ensures ∙ constant_is c.args.i c.requires

-- `line::open` meets its contract: the reading decides.
use mathlib.Core.Path.{◌∙◌}
use Rattle.std.proofs.lemmas.Result.{err_from_is_err_and}
use Rattle.line.proofs.Opener.{opened_so, fields_read}
use Rattle.line.proofs.open.Goals as goal

-- no line: refusal 7 with its place
pub returns-in_err-fields : goal.returns-in_err-fields
returns-in_err-fields c = let p = err_from_is_err_and c.from_residual.result c.from_residual.ensures.1 in rw (p.1, p.2) (opened_so _ _ _ _ _ (c.in_err-fields.ensures))

pub open-requires : goal.open-requires
open-requires c = fields_read _ _ (c.in_ok-fields.ensures)

pub returns : goal.returns
returns c = c.open.ensures ∙ opened_so _ _ _ _ _ (c.in_ok-fields.ensures)

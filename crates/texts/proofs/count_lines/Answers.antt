-- `texts::count_lines` meets its contract: each byte 0A ends a line, and the last byte says whether there is one line more.
use Rattle.std.proofs.Common.{arith, rules, ◌≡◌, ◌<◌, ◌-◌, get_or, length}
use Rattle.std.proofs.lemmas.Grind.{common_steps}
use Rattle.std.specs.List.{count_by}
use Rattle.texts.proofs.Lines.{is_end, counted_unended, counted_ended}
use Rattle.texts.proofs.count_lines.Goals as goal

pub returns-then-is_some_and : goal.returns-then-is_some_and
returns-then-is_some_and c =
    let all : c.count-ended.result ≡ count_by is_end c.args.s.now = search rules in
    let some : 0 < length c.args.s.now = grind (arith, common_steps) in
    let last : get_or c.args.s.now (length c.args.s.now - 1) 0 ≡ 10 → ⊥ = λ e. grind (arith, common_steps) in
    counted_unended _ _ all some last

pub returns : goal.returns
returns c =
    let all : c.count-ended.result ≡ count_by is_end c.args.s.now = search rules in
    let last : 0 < length c.args.s.now → get_or c.args.s.now (length c.args.s.now - 1) 0 ≡ 10 = λ h. grind (arith, common_steps) in
    counted_ended _ _ all last

-- `texts::line_end` meets its contract: the line ends behind the first 0A from its beginning on, or with the text.
use borrow.Author.Rules.{rules}
use borrow.Author.Tests.{tests}
use Rattle.std.proofs.lemmas.Iterator.{YieldsList-from_slice}
use Rattle.std.proofs.lemmas.Iterator.Search.{position_from_yields_List}
use Rattle.texts.proofs.Lines.{is_end, ends_behind, ends_with}
use Rattle.texts.proofs.line_end.Goals as goal

pub returns-in-Some : goal.returns-in-Some
returns-in-Some c =
    ends_behind c.args.s.now c.args.at
    (position_from_yields_List is_end _ _ _ c.position.ensures.ran (YieldsList-from_slice _ c.iter.ensures.rest) (λ x b q k. search (rules, tests)))
    _ c.in-Some.is

pub returns-in-None : goal.returns-in-None
returns-in-None c =
    ends_with c.args.s.now c.args.at
    (position_from_yields_List is_end _ _ _ c.position.ensures.ran (YieldsList-from_slice _ c.iter.ensures.rest) (λ x b q k. search (rules, tests)))
    c.requires c.in-None.is

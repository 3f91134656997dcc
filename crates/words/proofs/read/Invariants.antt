-- `words::read` meets its contract. The invariant: x, followed by the digits that are left, is the whole number.
use mathlib.Core.Path.{◌≡◌}
use lib.ListN.{drop}
use Rattle.words.specs.Digits.{word_from, word}
use Rattle.words.proofs.read.Given as goal

abbrev pub invariant-loop-digit : goal.invariant-loop-digit
invariant-loop-digit l = word_from l.m l.x (drop l.digit-index l.s) ≡ word l.m l.s

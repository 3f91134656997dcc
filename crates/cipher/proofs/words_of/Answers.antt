-- `words_of` meets its contract: each word is joined.
use Rattle.cipher.specs.Numbers.{joined_numbers}
use Rattle.cipher.proofs.words_of.Goals as goal

pub returns : goal.returns
unfolding joined_numbers
returns g c = λ i. record { w0 = c.word.ensures i; w1 = c.word-2.ensures i; k0 = c.word-3.ensures i; k1 = c.word-4.ensures i }

-- What a C call returns, from the answer of the call behind it.
use mathlib.Core.Path.{◌≡◌, ap, ◌∙◌}
use mathlib.Core.Bool.{true}
use mathlib.Core.List.{List, ◌++◌}
use Prim.Native.Nat.{ℕ, ◌*◌, ◌≤◌, ◌<◌}
use lib.ListN.{length, get_or, drop}
use Rattle.words.specs.Digits.{laid}
use Rattle.words.proofs.Laws.{length_laid}
use Rattle.refusals.specs.Refusals.{returned_of, Answer}
use Rattle.std.specs.Prelude.{Ok, Err}
use Rattle.refusals.specs.declared.Refusal.TheVariants.{Room}
use Rattle.words.specs.Lists.{among}
use Rattle.refusals.proofs.Answers.{Can, can_give, gives, gives_none}
use Rattle.kkurimyeot.specs.Calls.{words_given, returning}

pub returns_lem : {n : ℕ} {a : Answer} {o : List ℕ} {x : Answer × List ℕ} → n ≡ returned_of a → (a, o) ≡ x → (n, o) ≡ returning x
returns_lem {o = o} e f = ap (λ (k : ℕ). (k, o)) e ∙ ap returning f

-- words to lent memory: with room for them, without, and what can be refused
module _ (ws out : List ℕ) where
  pub words_fit : length ws * 8 ≤ length out → (Ok (length ws * 8), laid (length ws) (λ i. get_or ws i 0) ++ drop (length ws * 8) out) ≡ words_given ws out
  unfolding words_given
  words_fit room = gives _ out _ (length_laid (length ws) (λ i. get_or ws i 0)) room

  pub words_short : length out < length ws * 8 → (Err Room, out) ≡ words_given ws out
  unfolding words_given
  words_short short = gives_none _ out _ (length_laid (length ws) (λ i. get_or ws i 0)) short

  pub words_can : {ns : List ℕ} → among 5 ns ≡ true → Can ns out (words_given ws out)
  unfolding words_given
  words_can five = can_give _ five

-- QARMA-128 is a lawful cipher: each condition is a test that antt computes.
use Prim.Native.Nat.{ℕ}
use borrow.Author.Rules.{rules}
use lib.Dec.{T}
use lib.ListN.{get_or}
use Rattle.words.specs.Lists.{upto}
use Rattle.cells.proofs.Tests.{undoes, AllBelow}
use Rattle.cells.specs.Cells.{bit_stepped, bit_unstepped}
use Rattle.cells128.specs.Qarma128.{qarma128, constants, alpha_word}
use Rattle.cells.proofs.Words.{cut_below}
use Rattle.cells.proofs.Lawful.{Lawful, three, undoes_of}

pub lawful128 : Lawful qarma128
unfolding upto
lawful128 =
    record {
      mix = tt;
      box_within = three (λ (b : ℕ). AllBelow 256 256 (qarma128.box b)) (search rules) (search rules) (search rules);
      unbox_within = three (λ (b : ℕ). AllBelow 256 256 (qarma128.unbox b)) (search rules) (search rules) (search rules);
      unbox_box = three (λ (b : ℕ). T (undoes 256 (qarma128.unbox b) (qarma128.box b))) tt tt tt;
      box_unbox = three (λ (b : ℕ). T (undoes 256 (qarma128.box b) (qarma128.unbox b))) tt tt tt;
      step = undoes_of 8 (bit_unstepped 8 2) (bit_stepped 8 2) tt tt;
      unstep = undoes_of 8 (bit_stepped 8 2) (bit_unstepped 8 2) tt tt;
      constant = λ i. cut_below 8 (get_or constants i 0);
      alpha = cut_below 8 alpha_word;
    }

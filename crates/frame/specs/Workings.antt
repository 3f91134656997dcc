-- What contracts of private functions say: what is worked out on the way to the sealed bytes. Not from the paper.
use Rattle.std.specs.Prelude.{◌≡◌, Err, List, ◌++◌, ℕ, ◌*◌, length, drop}
use Rattle.words.specs.Digits.{laid}
use Rattle.words.specs.Lists.{sum}
use Rattle.cipher.specs.declared.Schedule.{Schedule}
use Rattle.frame.specs.Blocks.{blocks, block}
use Rattle.refusals.specs.Refusals.{Answer}
use Rattle.refusals.specs.declared.Refusal.{Refusal}
use Rattle.frame.specs.Frames.{sealed_block, limited}
use Rattle.frame.specs.declared.Enciphered.{Enciphered}

-- block i of some bytes, and what it is enciphered to
abbrev pub enciphered_block : Schedule → ℕ → ℕ → List ℕ → ℕ → Enciphered
enciphered_block s whole serial x i = record { from = block x i; to = sealed_block s whole serial x i }

-- the sum of the blocks of a message, and memory d with the enciphered blocks in their places
abbrev pub blocks_put : Schedule → ℕ → List ℕ → List ℕ → ℕ × List ℕ
blocks_put s serial m d = (sum (blocks (length m)) (block m), laid (blocks (length m)) (sealed_block s 0 serial m) ++ drop (blocks (length m) * 8) d)

-- a refusal for the limits, whatever would come after
abbrev pub Refuses : ℕ → List ℕ → ℕ → Refusal → Type 0
Refuses serial a n r = (out : List ℕ) (x : Answer × List ℕ) → limited serial a n out x ≡ (Err r, out)

-- One sealed text that opens at two lengths, 16 and 15. A whole and a filled last block have other tweaks, and the tags can agree by chance: no rule of document 01 shuts that out.
use mathlib.Core.List.{List, []}
use mathlib.Core.Path.{◌≡◌, refl}
use Prim.Native.Nat.{ℕ}
use native.Mathlib.Omega.{arith}
use Rattle.words.specs.Cases.{if_le}
use Rattle.words.specs.Digits.{digits}
use Rattle.words.proofs.Laws.{digits_below}
use Rattle.cells.specs.Cells.{cut, joined, added, looked, picked, mixed_by, on_seven}
use Rattle.words.specs.Lists.{upto}
use Rattle.cells64.specs.Qarma64.{qarma64}
use Rattle.cipher.specs.Engine.{key_schedule, forward, short_forward, backward, short_backward, forward_word, backward_word, forward_step, centre, middle, backward_step, engine}
use Rattle.cipher.specs.declared.Schedule.{Schedule}
use Rattle.frame.specs.Blocks.{filled, purpose, tag_purpose}
use Rattle.frame.specs.Frames.{sealed_bytes, SealedFrom}

abbrev key : Schedule
key = key_schedule qarma64 0x84BE85CE9804E94B 0xEC2802D4E0A488E9

-- the sealed bytes under serial 1 and no label
abbrev text : List ℕ
text = digits 8 24 0x07C083A47B326C6D9BF88EB2BDB10960000000003B271E6A

pub at_sixteen : SealedFrom key 1 [] 16 text
unfolding if_le upto cut joined added looked picked mixed_by on_seven forward short_forward backward short_backward forward_word backward_word forward_step centre middle backward_step engine filled purpose tag_purpose sealed_bytes
at_sixteen = record { message = digits 8 16 0xA54729AA32646895C497EFE738867FB1; bytes = digits_below 8 16 0xA54729AA32646895C497EFE738867FB1; size = refl; sealed = refl }

pub at_fifteen : SealedFrom key 1 [] 15 text
unfolding if_le upto cut joined added looked picked mixed_by on_seven forward short_forward backward short_backward forward_word backward_word forward_step centre middle backward_step engine filled purpose tag_purpose sealed_bytes
at_fifteen = record { message = digits 8 15 0xA54729AA326468950000024299B5A8; bytes = digits_below 8 15 0xA54729AA326468950000024299B5A8; size = refl; sealed = refl }

-- so no theorem says that sealed bytes open at one length only
pub two_lengths : ((n k : ℕ) → SealedFrom key 1 [] n text → SealedFrom key 1 [] k text → n ≡ k) → ⊥
two_lengths one = absurd (omega (arith, one 16 15 at_sixteen at_fifteen))

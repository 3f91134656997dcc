-- A cell's bits moved by masks: a test at every cell for each of the three ways.
use mathlib.Core.Path.{◌≡◌}
use mathlib.Core.Bool.{Bool, true, false, ◌&&◌, ◌||◌}
use mathlib.Core.List.{List}
use mathlib.Core.Logic.{◌⊎◌, inl, inr, ⊎_elim}
use Prim.Native.Nat.{ℕ, ◌*◌, ◌<◌}
use lib.Bits.{bit_and}
use lib.Dec.{T, eqb, eqb→eq}
use Rattle.words.specs.Digits.{◌⊕◌}
use Rattle.words.specs.Lists.{◌!◌}
use Rattle.cells.specs.Cells.{bit_stepped, bit_unstepped}
use Rattle.cells.specs.Workings.{bit_moved}
use Rattle.cells.proofs.Tests.{every}
use Rattle.cells.proofs.Upto.{both, each}
use Rattle.cells128.specs.Workings.{masked, Masks, AllMasks, way}

-- what the code reckons
abbrev pub by_masks : ℕ → ℕ → ℕ → ℕ
by_masks s u v = (v ⊕ bit_and (v ⊕ bit_stepped 8 2 v) s) ⊕ bit_and (v ⊕ bit_unstepped 8 2 v) u

either : (a b : Bool) → T (a || b) → T a ⊎ T b
either true b t = inl tt
either false b t = inr t

same : (s u : ℕ) → T (every 256 (λ v. eqb (by_masks s u v) (bit_moved 8 2 (way s u) v))) → (v : ℕ) → v < 256 → by_masks s u v ≡ bit_moved 8 2 (way s u) v
same s u t v h = eqb→eq (by_masks s u v) (bit_moved 8 2 (way s u) v) (each 256 (λ v. eqb (by_masks s u v) (bit_moved 8 2 (way s u) v)) t v h)

pub all_masks : (s u : List ℕ) → T (every 16 (λ i. masked (s ! i) (u ! i))) → AllMasks s u
all_masks s u t = record { all = each 16 (λ i. masked (s ! i) (u ! i)) t }

pub moved_is : (s u v : ℕ) → Masks s u → v < 256 → by_masks s u v ≡ bit_moved 8 2 (way s u) v
moved_is s u v m h =
    let parts = both ((eqb s 0 || eqb s 255) && (eqb u 0 || eqb u 255)) (eqb (s * u) 0) m in
    let two = both (eqb s 0 || eqb s 255) (eqb u 0 || eqb u 255) parts.0 in
    ⊎_elim
    (λ s0. ⊎_elim
    (λ u0. rw (eqb→eq s 0 s0, eqb→eq u 0 u0) (same 0 0 tt v h))
    (λ u1. rw (eqb→eq s 0 s0, eqb→eq u 255 u1) (same 0 255 tt v h))
    (either (eqb u 0) (eqb u 255) two.1))
    (λ s1. ⊎_elim
    (λ u0. rw (eqb→eq s 255 s1, eqb→eq u 0 u0) (same 255 0 tt v h))
    (λ u1. absurd (rw (eqb→eq s 255 s1, eqb→eq u 255 u1) at parts.1))
    (either (eqb u 0) (eqb u 255) two.1))
    (either (eqb s 0) (eqb s 255) two.0)

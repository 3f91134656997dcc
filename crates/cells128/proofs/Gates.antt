-- The gates of each box give its table: a test at every cell.
use mathlib.Core.Path.{◌≡◌, sym, ap, ◌∙◌}
use mathlib.Core.List.{List}
use Prim.Native.Nat.{ℕ, ◌/◌, ◌<◌}
use lib.Dec.{T, eqb, eqb→eq}
use Rattle.words.specs.Digits.{◌⊕◌}
use Rattle.words.specs.Lists.{◌!◌, upto}
use Rattle.cells.specs.Boxes.{box0, box1, box2, unbox2}
use Rattle.cells.proofs.Tests.{every}
use Rattle.cells.proofs.Upto.{each, upto_at}
use Rattle.cells128.specs.Qarma128.{both, wiring, unwiring, wired, unwired}
use Rattle.cells128.specs.Workings.{rewired, joined_pairs, gates0, gates1, gates2, ungates2}

-- the gates between the pairs of a cell, and the pairs joined: for a box, and for the inverse of one
abbrev pub through : (ℕ → ℕ → ℕ → ℕ → List ℕ) → ℕ → ℕ
through gates x = let y = rewired x in let g = gates y (y / 16) (y / 4) (y / 64) in joined_pairs (g ! 0) (g ! 1) (g ! 2) (g ! 3)

abbrev pub unthrough : (ℕ → ℕ → ℕ → ℕ → List ℕ) → ℕ → ℕ
unthrough gates x = let g = gates x (x / 4) (x / 16) (x / 64) in rewired (joined_pairs (g ! 0) (g ! 2) (g ! 1) (g ! 3))

-- the same from what the code calls gates with, and the number that complements
module _ (gates : ℕ → ℕ → ℕ → ℕ → List ℕ) (k x : ℕ) {g : List ℕ} {r : ℕ} where
  pub passed : g ≡ gates (rewired x) (rewired x / 16) (rewired x / 4) (rewired x / 64) → r ≡ joined_pairs (g ! 0) (g ! 1) (g ! 2) (g ! 3) ⊕ k → r ≡ through gates x ⊕ k
  passed e f = f ∙ ap (λ (l : List ℕ). joined_pairs (l ! 0) (l ! 1) (l ! 2) (l ! 3) ⊕ k) e

  pub unpassed : g ≡ gates x (x / 4) (x / 16) (x / 64) → r ≡ rewired (joined_pairs (g ! 0) (g ! 2) (g ! 1) (g ! 3)) ⊕ k → r ≡ unthrough gates x ⊕ k
  unpassed e f = f ∙ ap (λ (l : List ℕ). rewired (joined_pairs (l ! 0) (l ! 2) (l ! 1) (l ! 3)) ⊕ k) e

-- what a function has at each cell, a table of it has
tabled : (f g : ℕ → ℕ) → T (every 256 (λ v. eqb (f v) (g v))) → (x : ℕ) → x < 256 → f x ≡ upto 256 g ! x
tabled f g t x h = eqb→eq (f x) (g x) (each 256 (λ v. eqb (f v) (g v)) t x h) ∙ sym (upto_at 256 g x h)

pub box_0_is : (x : ℕ) → x < 256 → through gates0 x ≡ wired box0 ! x
box_0_is = tabled (λ v. through gates0 v) (λ v. wiring (both box0 v)) tt

pub unbox_0_is : (x : ℕ) → x < 256 → unthrough gates0 x ≡ unwired box0 ! x
unbox_0_is = tabled (λ v. unthrough gates0 v) (λ v. both box0 (unwiring v)) tt

pub box_1_is : (x : ℕ) → x < 256 → through gates1 x ⊕ 204 ≡ wired box1 ! x
box_1_is = tabled (λ v. through gates1 v ⊕ 204) (λ v. wiring (both box1 v)) tt

pub unbox_1_is : (x : ℕ) → x < 256 → unthrough gates1 x ⊕ 170 ≡ unwired box1 ! x
unbox_1_is = tabled (λ v. unthrough gates1 v ⊕ 170) (λ v. both box1 (unwiring v)) tt

pub box_2_is : (x : ℕ) → x < 256 → through gates2 x ⊕ 207 ≡ wired box2 ! x
box_2_is = tabled (λ v. through gates2 v ⊕ 207) (λ v. wiring (both box2 v)) tt

pub unbox_2_is : (x : ℕ) → x < 256 → unthrough ungates2 x ⊕ 85 ≡ unwired unbox2 ! x
unbox_2_is = tabled (λ v. unthrough ungates2 v ⊕ 85) (λ v. both unbox2 (unwiring v)) tt

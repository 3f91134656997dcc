-- Document 01, "Boxes": the three boxes of 4 bits. QARMA-64 has them as they are, QARMA-128 wires two of each into one of 8 bits. Document 000 has them in 3.3.
use Rattle.std.specs.Prelude.{List, [], ◌∷◌, ℕ}
use Rattle.cells.specs.declared.Sbox.{Sbox}
use Rattle.cells.specs.declared.Sbox.TheVariants.{Sigma0, Sigma1, Sigma2}

-- "Boxes, for inputs 0 to 15"
abbrev pub box0 : List ℕ
box0 = 0 ∷ 14 ∷ 2 ∷ 10 ∷ 9 ∷ 15 ∷ 8 ∷ 11 ∷ 6 ∷ 4 ∷ 3 ∷ 7 ∷ 13 ∷ 12 ∷ 1 ∷ 5 ∷ []

abbrev pub box1 : List ℕ
box1 = 10 ∷ 13 ∷ 14 ∷ 6 ∷ 15 ∷ 7 ∷ 3 ∷ 5 ∷ 9 ∷ 8 ∷ 0 ∷ 12 ∷ 11 ∷ 1 ∷ 2 ∷ 4 ∷ []

abbrev pub box2 : List ℕ
box2 = 11 ∷ 6 ∷ 8 ∷ 15 ∷ 12 ∷ 0 ∷ 9 ∷ 14 ∷ 3 ∷ 7 ∷ 4 ∷ 5 ∷ 13 ∷ 2 ∷ 1 ∷ 10 ∷ []

abbrev pub boxes : List (List ℕ)
boxes = box0 ∷ box1 ∷ box2 ∷ []

-- "the inverse box": boxes 0 and 1 are "involutory" (document 000, 3.3.3 and 3.3.4), so the inverse of each is the box itself; that of box 2 stands in 3.3.5 (that each undoes its box is computed: `lawful64`, `lawful128`)
abbrev pub unbox2 : List ℕ
unbox2 = 5 ∷ 14 ∷ 13 ∷ 8 ∷ 10 ∷ 11 ∷ 1 ∷ 9 ∷ 2 ∷ 6 ∷ 15 ∷ 0 ∷ 4 ∷ 12 ∷ 7 ∷ 3 ∷ []

abbrev pub unboxes : List (List ℕ)
unboxes = box0 ∷ box1 ∷ unbox2 ∷ []

-- "box number 0, 1 or 2"
abbrev pub sbox_number : Sbox → ℕ
sbox_number Sigma0 = 0
sbox_number Sigma1 = 1
sbox_number Sigma2 = 2

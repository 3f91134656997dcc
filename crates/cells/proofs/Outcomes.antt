-- One outcome: each public contract of `cells` leaves one answer and one content of lent memory.
use mathlib.Core.Path.{refl, sym, ◌∙◌}
use denote.Param.Laws.{Laws}
use denote.RattleType.{RattleType}
use mir.Syntax.{Dict}
use Rattle.words.proofs.Decided.{Decided}
use Rattle.cells.specs.declared.Matrix.{Ghosts}
use Rattle.cells.proofs

pub add_decided : Decided proofs.Cells.add.Kinds.ps proofs.Cells.add.Kinds.r proofs.Cells.add.Reads.Post
add_decided κs a x y v w p q = (p ∙ sym q, refl)

pub shuffle_decided : Decided proofs.Cells.shuffle.Kinds.ps proofs.Cells.shuffle.Kinds.r proofs.Cells.shuffle.Reads.Post
shuffle_decided κs a x y v w p q = (p ∙ sym q, refl)

pub unshuffle_decided : Decided proofs.Cells.unshuffle.Kinds.ps proofs.Cells.unshuffle.Kinds.r proofs.Cells.unshuffle.Reads.Post
unshuffle_decided κs a x y v w p q = (p ∙ sym q, refl)

pub transpose_decided : Decided proofs.Cells.transpose.Kinds.ps proofs.Cells.transpose.Kinds.r proofs.Cells.transpose.Reads.Post
transpose_decided κs a x y v w p q = (p ∙ sym q, refl)

pub of_rows_decided : Decided proofs.of_rows.Kinds.ps proofs.of_rows.Kinds.r proofs.of_rows.Reads.Post
of_rows_decided κs a x y v w p q = (p ∙ sym q, refl)

pub take_decided : Decided proofs.Cells.take.Kinds.ps proofs.Cells.take.Kinds.r proofs.Cells.take.Reads.Post
take_decided κs a x y v w p q = (p ∙ sym q, refl)

-- at any matrix: a type T with the laws that every type has, the bound's members at it, and the code that it brings
pub mix_decided : (T : RattleType) (l : Laws T) (m : Ghosts T.Denot) (d : Dict) → Decided (proofs.Cells.mix.Kinds.ps T l) (proofs.Cells.mix.Kinds.r T l) (proofs.Cells.mix.Reads.Post T l m d)
mix_decided T l m d κs a x y v w p q = (p ∙ sym q, refl)

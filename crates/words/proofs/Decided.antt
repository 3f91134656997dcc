-- A contract that leaves no choice.
use mathlib.Core.Path.{◌≡◌}
use mathlib.Core.List.{List}
use Prim.Native.Nat.{ℕ}
use contract.Lifetimes.{Lfts}
use borrow.Fn.Kinds.{ParamKind, ResultKind, Dens, res_t, ended_of, Out}
use denote.Triple.Clauses.{Lasts, at_exit}

-- Two outcomes that a contract allows of the same arguments are equal. An outcome is the answer, with what stands at exit behind
-- each `&mut` parameter: `Lasts` has a part for each parameter, a list for a `&mut [u8]`, and `Unit` for what no callee can change.
abbrev pub Decided : {n : ℕ} (ps : List (ParamKind n)) (r : ResultKind n) → Out n ps r → Type 0
Decided {n} ps r Post =
    (κs : Lfts n) (a : Dens κs ps) (x y : (res_t r κs).Denot) (v w : Lasts (ended_of n ps r) κs a)
    → Post κs a x (at_exit (ended_of n ps r) κs a v) → Post κs a y (at_exit (ended_of n ps r) κs a w) → (x ≡ y) × (v ≡ w)

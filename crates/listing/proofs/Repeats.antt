-- Request 1 of document 02, "A serial used twice": no serial is reported as opened twice, and refused lines use up nothing.
use Prim.Native.Nat.{ℕ, ◌+◌}
use mathlib.Core.Bool.{true, false}
use mathlib.Core.Path.{◌≡◌, refl, sym, ap, ap₂, ◌∙◌}
use mathlib.Core.Logic.{◌⊎◌, inl, inr}
use mathlib.Core.List.{List, [], ◌∷◌, ◌++◌, append_assoc}
use native.Mathlib.Nat.{add-zero, add_assoc}
use native.Mathlib.Omega.{arith}
use lib.ListN.{length}
use Rattle.words.specs.Lists.{among}
use Rattle.words.proofs.Cases.{by_eq, clash, not_true_false}
use Rattle.refusals.specs.Refusals.{Answer}
use Rattle.std.specs.Prelude.{Ok, Err}
use Rattle.refusals.specs.declared.Refusal.{Refusal}
use Rattle.serials.proofs.Among.{among_here, among_there}
use Rattle.line.specs.Reader.{serial_of}
use Rattle.listing.specs.Listing.{answer_of, answer_after, used_by, used_after, answers, report, reports, one, opened_in, used_up_to, answer_behind, UsedBefore, Once, once_more}
use Rattle.listing.proofs.Used.{opened_as}

-- ---- the serials that are used

module _ (w0 k0 : ℕ) where
  used_append : (used : List ℕ) (xs ys : List (List ℕ)) → used_up_to w0 k0 used (xs ++ ys) ≡ used_up_to w0 k0 (used_up_to w0 k0 used xs) ys
  used_append used [] ys = refl
  used_append used (l ∷ xs) ys = used_append (used_after w0 k0 used l) xs ys

  -- as many as lines were reported as opened
  used_opened : (used : List ℕ) (ls : List (List ℕ)) → length (used_up_to w0 k0 used ls) ≡ length used + opened_in (answers w0 k0 used ls)
  used_opened used [] = sym (add-zero (length used))
  used_opened used (l ∷ ls) =
      used_opened (used_after w0 k0 used l) ls
      ∙ ap (λ (n : ℕ). n + opened_in (answers w0 k0 (used_after w0 k0 used l) ls)) (one_more (answer_after w0 k0 used l))
      ∙ add_assoc (length used) (one (answer_after w0 k0 used l)) (opened_in (answers w0 k0 (used_after w0 k0 used l) ls))
    where
      one_more : (a : Answer) → length (used_by used (serial_of l) a) ≡ length used + one a
      one_more (Ok k) = omega arith
      one_more (Err r) = omega arith

  -- what is used stays used
  still_by : (x : ℕ) (used : List ℕ) (serial : ℕ) (a : Answer) → among x used ≡ true → among x (used_by used serial a) ≡ true
  still_by x used serial (Ok k) e = by_eq x serial (λ h. among_here x serial used h) (λ h. among_there x serial used h ∙ e)
  still_by x used serial (Err r) e = e

  still_used : (x : ℕ) (used : List ℕ) (ls : List (List ℕ)) → among x used ≡ true → among x (used_up_to w0 k0 used ls) ≡ true
  still_used x used [] e = e
  still_used x used (l ∷ ls) e = still_used x (used_after w0 k0 used l) ls (still_by x used (serial_of l) (answer_after w0 k0 used l) e)

  -- one of the lines, behind those that left the serials used, was reported as opened under x
  record Among (x : ℕ) (used : List ℕ) (ls : List (List ℕ)) : Type 0 where
    earlier : List (List ℕ)
    line : List ℕ
    later : List (List ℕ)
    cut : ls ≡ earlier ++ (line ∷ later)
    size : ℕ
    opened : answer_after w0 k0 (used_up_to w0 k0 used earlier) line ≡ Ok size
    same : serial_of line ≡ x

  further : {x : ℕ} {used l : List ℕ} {ls : List (List ℕ)} → Among x (used_after w0 k0 used l) ls → Among x used (l ∷ ls)
  further {x} {used} {l} {ls} h =
      record { earlier = l ∷ h.earlier; line = h.line; later = h.later; cut = ap (λ (z : List (List ℕ)). l ∷ z) h.cut; size = h.size; opened = h.opened; same = h.same }

  first_or : (x : ℕ) (used l : List ℕ) (ls : List (List ℕ)) (a : Answer) → answer_after w0 k0 used l ≡ a → among x (used_by used (serial_of l) a) ≡ true → (among x used ≡ true) ⊎ Among x used (l ∷ ls)
  first_or x used l ls (Err r) q e = inl e
  first_or x used l ls (Ok k) q e =
      by_eq x (serial_of l)
      (λ h. inr (record { earlier = []; line = l; later = ls; cut = refl; size = k; opened = q; same = sym h }))
      (λ h. inl (sym (among_there x (serial_of l) used h) ∙ e))

  used_by_one : (x : ℕ) (used : List ℕ) (ls : List (List ℕ)) → among x (used_up_to w0 k0 used ls) ≡ true → (among x used ≡ true) ⊎ Among x used ls
  used_by_one x used [] e = inl e
  used_by_one x used (l ∷ ls) e =
      elim (used_by_one x (used_after w0 k0 used l) ls e) [
        | inl h ↦ first_or x used l ls (answer_after w0 k0 used l) refl h
        | inr h ↦ inr (further h)
      ]

  module _ (x : ℕ) (before : List (List ℕ)) where
    pub used_before : among x (used_up_to w0 k0 [] before) ≡ true → UsedBefore w0 k0 x before
    used_before e =
        elim (used_by_one x [] before e) [
          | inl h ↦ absurd (clash false h refl)
          | inr h ↦ record { earlier = h.earlier; line = h.line; later = h.later; cut = h.cut; size = h.size; opened = h.opened; same = h.same }
        ]

    pub before_used : UsedBefore w0 k0 x before → among x (used_up_to w0 k0 [] before) ≡ true
    before_used h =
        let u = used_up_to w0 k0 [] h.earlier in
        let now : used_after w0 k0 u h.line ≡ serial_of h.line ∷ u = ap (used_by u (serial_of h.line)) h.opened in
        ap (λ (z : List (List ℕ)). among x (used_up_to w0 k0 [] z)) h.cut
        ∙ ap (among x) (used_append [] h.earlier (h.line ∷ h.later))
        ∙ still_used x (used_after w0 k0 u h.line) h.later (ap (among x) now ∙ among_here x (serial_of h.line) u (sym h.same))

    -- not used before, and the other way round
    pub not_used : (UsedBefore w0 k0 x before → ⊥) → among x (used_up_to w0 k0 [] before) ≡ false
    not_used n = not_true_false (among x (used_up_to w0 k0 [] before)) (λ e. n (used_before e))

    pub unused : among x (used_up_to w0 k0 [] before) ≡ false → UsedBefore w0 k0 x before → ⊥
    unused e h = clash (among x (used_up_to w0 k0 [] before)) (before_used h) e

  -- as many serials are used as lines were reported as opened
  pub opened_before : (before : List (List ℕ)) → length (used_up_to w0 k0 [] before) ≡ opened_in (answers w0 k0 [] before)
  opened_before before = used_opened [] before ∙ omega arith

  -- ---- a line and its report

  pub answers_length : (used : List ℕ) (ls : List (List ℕ)) → length (answers w0 k0 used ls) ≡ length ls
  answers_length used [] = refl
  answers_length used (l ∷ ls) = omega (arith, answers_length (used_after w0 k0 used l) ls)

  answers_append : (used : List ℕ) (xs ys : List (List ℕ)) → answers w0 k0 used (xs ++ ys) ≡ answers w0 k0 used xs ++ answers w0 k0 (used_up_to w0 k0 used xs) ys
  answers_append used [] ys = refl
  answers_append used (l ∷ xs) ys = ap (λ (z : List Answer). answer_after w0 k0 used l ∷ z) (answers_append (used_after w0 k0 used l) xs ys)

  reports_append : (n : ℕ) (xs ys : List Answer) → reports n (xs ++ ys) ≡ reports n xs ++ reports (n + length xs) ys
  reports_append n [] ys = ap (λ (k : ℕ). reports k ys) (sym (add-zero n))
  reports_append n (a ∷ xs) ys =
      let e : n + 1 + length xs ≡ n + length (a ∷ xs) = omega arith in
      ap (λ (z : List ℕ). report (n + 1) a ++ z) (reports_append (n + 1) xs ys ∙ ap (λ (k : ℕ). reports (n + 1) xs ++ reports k ys) e)
      ∙ sym (append_assoc (report (n + 1) a) (reports (n + 1) xs) (reports (n + length (a ∷ xs)) ys))

  -- a line behind n others is reported as number n + 1, with what is answered for it behind them
  pub reported_behind : (before : List (List ℕ)) (l : List ℕ) (after : List (List ℕ))
      → reports 0 (answers w0 k0 [] (before ++ (l ∷ after)))
      ≡ reports 0 (answers w0 k0 [] before) ++ (report (length before + 1) (answer_behind w0 k0 before l) ++ reports (length before + 1) (answers w0 k0 (used_up_to w0 k0 [] (before ++ (l ∷ []))) after))
  reported_behind before l after =
      let given = answers w0 k0 [] before in
      let u = used_up_to w0 k0 [] before in
      let n : 0 + length given ≡ length before = omega (arith, answers_length [] before) in
      ap (reports 0) (answers_append [] before (l ∷ after))
      ∙ reports_append 0 given (answers w0 k0 u (l ∷ after))
      ∙ ap₂ (λ (k : ℕ) (v : List ℕ). reports 0 given ++ (report (k + 1) (answer_behind w0 k0 before l) ++ reports (k + 1) (answers w0 k0 v after))) n (sym (used_append [] before (l ∷ [])))

  -- ---- the two that a tester looks for

  -- no serial is reported as opened twice
  pub no_serial_twice : (before : List (List ℕ)) (l : List ℕ) (between : List (List ℕ)) (m : List ℕ) (j k : ℕ)
      → answer_behind w0 k0 before l ≡ Ok j → answer_behind w0 k0 (before ++ (l ∷ between)) m ≡ Ok k → serial_of l ≡ serial_of m → ⊥
  no_serial_twice before l between m j k e f same =
      unused (serial_of m) (before ++ (l ∷ between)) (opened_as (used_up_to w0 k0 [] (before ++ (l ∷ between))) (serial_of m) (answer_of w0 k0 m) k f).unused
      (record { earlier = before; line = l; later = between; cut = refl; size = j; opened = e; same = same })

  -- a refused line uses up nothing: each line behind it is answered as if it were not there
  pub refused_uses_nothing : (before : List (List ℕ)) (l : List ℕ) (r : Refusal) → answer_behind w0 k0 before l ≡ Err r → (between : List (List ℕ)) (m : List ℕ)
      → answer_behind w0 k0 (before ++ (l ∷ between)) m ≡ answer_behind w0 k0 (before ++ between) m
  refused_uses_nothing before l r e between m =
      ap (λ (u : List ℕ). answer_after w0 k0 u m)
      (used_append [] before (l ∷ between)
      ∙ ap (λ (u : List ℕ). used_up_to w0 k0 u between) (ap (used_by (used_up_to w0 k0 [] before) (serial_of l)) e)
      ∙ sym (used_append [] before between))

-- ---- no serial comes twice among the lines of a good file

once_later : (x : ℕ) (used : List ℕ) (ys : List (List ℕ)) (m : List ℕ) (zs : List (List ℕ)) → Once used (ys ++ (m ∷ zs)) → among x used ≡ true → x ≡ serial_of m → ⊥
once_later x used [] m zs (once_more f o) e same = clash (among x used) e (ap (λ (y : ℕ). among y used) same ∙ f)
once_later x used (y ∷ ys) m zs (once_more f o) e same =
    once_later x (serial_of y ∷ used) ys m zs o (by_eq x (serial_of y) (λ h. among_here x (serial_of y) used h) (λ h. among_there x (serial_of y) used h ∙ e)) same

pub once_apart : (used : List ℕ) (xs : List (List ℕ)) (l : List ℕ) (ys : List (List ℕ)) (m : List ℕ) (zs : List (List ℕ)) → Once used (xs ++ (l ∷ (ys ++ (m ∷ zs)))) → serial_of l ≡ serial_of m → ⊥
once_apart used [] l ys m zs (once_more f o) same = once_later (serial_of l) (serial_of l ∷ used) ys m zs o (among_here (serial_of l) (serial_of l) used refl) same
once_apart used (x ∷ xs) l ys m zs (once_more f o) same = once_apart (serial_of x ∷ used) xs l ys m zs o same

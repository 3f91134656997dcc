-- What writing a line answers, from what sealing answered.
use Prim.Native.Nat.{ℕ, ◌≤◌}
use mathlib.Core.Path.{◌≡◌, sym, ap, ap₂, ◌∙◌}
use mathlib.Core.List.{List}
use native.Mathlib.Omega.{arith}
use lib.ListN.{length, take}
use lib.Seq.{take_at}
use Rattle.refusals.specs.Refusals.{Answer, giving}
use Rattle.std.specs.Prelude.{Ok, Err}
use Rattle.refusals.specs.declared.Refusal.{Refusal}
use Rattle.refusals.proofs.Answers.{not_both}
use Rattle.cells64.specs.Qarma64.{qarma64}
use Rattle.cipher.specs.Engine.{key_schedule}
use Rattle.frame.specs.Frames.{sealed_size, sealed_bytes, sealing, Within}
use Rattle.frame.proofs.Opening.{sealed_length}
use Rattle.frame.proofs.Limits.{goes_on, Refuses, limits, within, refused}
use Rattle.frame.proofs.Demands.{seals}
use Rattle.line.specs.Line.{line_of}
use Rattle.line.specs.Calls.{frame_of, writing}

module _ (w0 k0 serial : ℕ) (a m : List ℕ) where
  -- what the limits refuse, sealing and writing refuse alike
  limited_sealing : (r : Refusal) → Refuses serial a (length m) r → (d : List ℕ) → sealing w0 k0 serial a m d ≡ (Err r, d)
  unfolding sealing
  limited_sealing r f d = f d _

  limited_writing : (r : Refusal) → Refuses serial a (length m) r → (out : List ℕ) → writing w0 k0 serial a m out ≡ (Err r, out)
  unfolding writing
  limited_writing r f out = f out _

  -- sealing answered that it wrote k bytes, and left o
  pub record Ok-sealed (d : List ℕ) (k : ℕ) (o : List ℕ) : Type 0 where
    pub within : Within serial a (length m)
    pub size : k ≡ sealed_size (length m)
    pub bytes : take k o ≡ sealed_bytes (key_schedule qarma64 w0 k0) serial a m

  pub sealing_wrote : (d : List ℕ) → 1032 ≤ length d → (k : ℕ) (o : List ℕ) → (Ok k, o) ≡ sealing w0 k0 serial a m d → Ok-sealed d k o
  sealing_wrote d h k o e =
      elim (limits serial a (length m)) [
        | refused r f ↦ absurd (not_both (e ∙ limited_sealing r f d))
        | within w ↦
            let room : sealed_size (length m) ≤ length d = omega (arith, w.message) in
            let made = e ∙ seals w0 k0 serial a m d w room in
            let first : Ok k ≡ Ok (sealed_size (length m)) = ap (λ (x : Answer × List ℕ). x.0) made in
            let size : k ≡ sealed_size (length m) = cc in
            record {
              within = w;
              size = size;
              bytes = ap₂ take size (ap (λ (x : Answer × List ℕ). x.1) made) ∙ take_at (sealed_bytes (key_schedule qarma64 w0 k0) serial a m) _ (sealed_size (length m)) (sealed_length (key_schedule qarma64 w0 k0) serial a m);
            }
      ]

  pub sealing_refused : (d : List ℕ) → 1032 ≤ length d → (r : Refusal) (o : List ℕ) → (Err r, o) ≡ sealing w0 k0 serial a m d → (out : List ℕ) → (Err r, out) ≡ writing w0 k0 serial a m out
  sealing_refused d h r o e out =
      elim (limits serial a (length m)) [
        | refused q f ↦
            let first : Err r ≡ Err q = ap (λ (x : Answer × List ℕ). x.0) (e ∙ limited_sealing q f d) in
            ap (λ (x : Answer). (x, out)) first ∙ sym (limited_writing q f out)
        | within w ↦
            let room : sealed_size (length m) ≤ length d = omega (arith, w.message) in
            absurd (not_both (sym (e ∙ seals w0 k0 serial a m d w room)))
      ]

  -- what was sealed is written, if there is room
  pub writes : (out : List ℕ) → Within serial a (length m) → giving (line_of (frame_of serial a (length m) (sealed_bytes (key_schedule qarma64 w0 k0) serial a m))) out ≡ writing w0 k0 serial a m out
  unfolding writing
  writes out h = goes_on serial a (length m) out _ h

-- The limits of frames: what is within them goes on, and the rest is refused, whatever would come after.
use mathlib.Core.Bool.{true}
use mathlib.Core.Path.{◌≡◌, sym, ◌∙◌}
use mathlib.Core.List.{List}
use Prim.Native.Nat.{ℕ, ◌<◌, ◌≤◌}
use lib.ListN.{length}
use Rattle.refusals.specs.Refusals.{Answer}
use Rattle.std.specs.Prelude.{Err}
use Rattle.refusals.specs.declared.Refusal.{Refusal}
use Rattle.refusals.specs.declared.Refusal.TheVariants.{Length, Serial}
use Rattle.words.specs.Lists.{among}
use Rattle.words.proofs.Cases.{le_case, gt_case, by_lt}
use Rattle.refusals.proofs.Answers.{Can, can_refused, can_le}
use Rattle.frame.specs.Frames.{message_max, label_max, serial_max, limited, Within}

module _ (serial : ℕ) (a : List ℕ) (n : ℕ) (out : List ℕ) (x : Answer × List ℕ) where
  pub goes_on : Within serial a n → x ≡ limited serial a n out x
  unfolding limited
  goes_on h = le_case serial serial_max _ _ h.serial ∙ le_case (length a) label_max _ _ h.label ∙ le_case n message_max _ _ h.message

  pub long_message : message_max < n → (Err Length, out) ≡ limited serial a n out x
  unfolding limited
  long_message h = gt_case n message_max _ _ h

  pub long_label : n ≤ message_max → label_max < length a → (Err Length, out) ≡ limited serial a n out x
  unfolding limited
  long_label h l = gt_case (length a) label_max _ _ l ∙ le_case n message_max _ _ h

  pub high_serial : n ≤ message_max → length a ≤ label_max → serial_max < serial → (Err Serial, out) ≡ limited serial a n out x
  unfolding limited
  high_serial h l s = gt_case serial serial_max _ _ s ∙ le_case (length a) label_max _ _ l ∙ le_case n message_max _ _ h

module _ (serial : ℕ) (a : List ℕ) (n : ℕ) where
  abbrev pub Refuses : Refusal → Type 0
  Refuses r = (out : List ℕ) (x : Answer × List ℕ) → limited serial a n out x ≡ (Err r, out)

  pub data Limited : Type 0 where
    within : Within serial a n → Limited
    refused : (r : Refusal) → Refuses r → Limited

  pub limits : Limited
  limits =
      by_lt message_max n (λ k. refused Length (λ out x. sym (long_message serial a n out x k)))
      (λ m. by_lt label_max (length a) (λ k. refused Length (λ out x. sym (long_label serial a n out x m k)))
      (λ l. by_lt serial_max serial (λ k. refused Serial (λ out x. sym (high_serial serial a n out x m l k)))
      (λ s. within (record { message = m; label = l; serial = s }))))

pub can_limited : {ns : List ℕ} (serial : ℕ) (a : List ℕ) (n : ℕ) {out : List ℕ} {x : Answer × List ℕ} → among 2 ns ≡ true → among 3 ns ≡ true → Can ns out x → Can ns out (limited serial a n out x)
unfolding limited
can_limited serial a n two three h = can_le _ _ (can_le _ _ (can_le _ _ h (can_refused Serial three)) (can_refused Length two)) (can_refused Length two)

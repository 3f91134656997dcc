-- What is printed of a refusal.
use Prim.Native.Nat.{ℕ}
use mathlib.Core.Path.{◌≡◌, refl}
use mathlib.Core.List.{append-nil}
use Rattle.refusals.specs.Refusals.{number_of}
use Rattle.refusals.specs.declared.Refusal.{Refusal}
use Rattle.refusals.specs.declared.Refusal.TheVariants.{Settings, Length, Serial, SealedSize, Room, Disagrees, Line, RepeatedSerial, SerialListFull, TooLarge}
use Rattle.texts.specs.Texts.{decimal}
use Rattle.listing.specs.Listing.{refusal_text}

-- the place of no refusal but that of a line
pub number_alone : (r : Refusal) → ((p : ℕ) → r ≡ Line p → ⊥) → refusal_text r ≡ decimal (number_of r)
number_alone Settings n = append-nil _
number_alone Length n = append-nil _
number_alone Serial n = append-nil _
number_alone SealedSize n = append-nil _
number_alone Room n = append-nil _
number_alone Disagrees n = append-nil _
number_alone (Line p) n = absurd (n p refl)
number_alone RepeatedSerial n = append-nil _
number_alone SerialListFull n = append-nil _
number_alone TooLarge n = append-nil _

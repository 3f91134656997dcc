-- Demand 3, and what demand 2 says of box and rounds, over the cell width: stated once, and read off for QARMA-64 and QARMA-128.
use mathlib.Core.Path.{◌≡◌, ap, ◌∙◌}
use Prim.Native.Nat.{ℕ, ◌*◌, ◌^◌, ◌<◌, ◌≤◌}
use native.Mathlib.Omega.{arith}
use Rattle.words.proofs.Cases.{le_case, gt_case, le_either}
use Rattle.cells.specs.Cells.{Cipher, Below, cut, joined}
use Rattle.cells.specs.declared.Cells.{Cells}
use Rattle.cells.proofs.Lawful.{Lawful}
use Rattle.cells.proofs.Words.{cut_below, joined_cut, cut_joined, joined_lt}
use Rattle.cipher.specs.Engine.{ScheduleBelow, schedule_of, w1_from, key_schedule, engine, turned}
use Rattle.cipher.specs.Numbers.{Numbers, cut_numbers, joined_numbers, turned_numbers, engine_word, sized}
use Rattle.cipher.specs.declared.Schedule.{Schedule}
use Rattle.cipher.proofs.Rounds.{turned_below}
use Rattle.cipher.proofs.Turning.{turned_twice, undone, redone, engine_below}

-- ---- numbers and schedules

pub schedule_below : (m w0 w1 k0 k1 : ℕ) → ScheduleBelow m (schedule_of m w0 w1 k0 k1)
schedule_below m w0 w1 k0 k1 = record { w0 = cut_below m w0; w1 = cut_below m w1; k0 = cut_below m k0; k1 = cut_below m k1 }

pub key_below : (c : Cipher) (w0 k0 : ℕ) → ScheduleBelow c.bits (key_schedule c w0 k0)
key_below c w0 k0 = schedule_below c.bits w0 (w1_from (16 * c.bits) w0) k0 k0

-- four numbers of as many bits as sixteen cells have
pub record Four (c : Cipher) (n : Numbers) : Type 0 where
  pub w0 : n.w0 < 2 ^ (c.bits * 16)
  pub w1 : n.w1 < 2 ^ (c.bits * 16)
  pub k0 : n.k0 < 2 ^ (c.bits * 16)
  pub k1 : n.k1 < 2 ^ (c.bits * 16)

pub numbers_below : (c : Cipher) (n : Numbers) → ScheduleBelow c.bits (cut_numbers c n)
numbers_below c n = schedule_below c.bits n.w0 n.w1 n.k0 n.k1

-- the words of a schedule, cut, are the schedule, and the other way round
cut_numbers_lem : (c : Cipher) {s : Schedule} → ScheduleBelow c.bits s → cut_numbers c (joined_numbers c s) ≡ s
unfolding joined_numbers
cut_numbers_lem c g =
    λ i. record { w0 = cut_joined c.bits g.w0 i; w1 = cut_joined c.bits g.w1 i; k0 = cut_joined c.bits g.k0 i; k1 = cut_joined c.bits g.k1 i }

numbers_cut : (c : Cipher) (n : Numbers) → Four c n → joined_numbers c (cut_numbers c n) ≡ n
unfolding joined_numbers
numbers_cut c n h =
    λ i. record {
      w0 = joined_cut c.bits n.w0 h.w0 i;
      w1 = joined_cut c.bits n.w1 h.w1 i;
      k0 = joined_cut c.bits n.k0 h.k0 i;
      k1 = joined_cut c.bits n.k1 h.k1 i;
    }

pub cut_turned : {c : Cipher} → Lawful c → (n : Numbers) → cut_numbers c (turned_numbers c n) ≡ turned c (cut_numbers c n)
cut_turned {c} k n = cut_numbers_lem c (turned_below k (numbers_below c n))

-- ---- demand 3 (docs/CONTRACTS.md): "One engine runs both ways, under a schedule and under the turned schedule, on any four words."

-- what one schedule does to a block, another undoes
undone_by : (c : Cipher) (b r : ℕ) (s u : Schedule) (t p : ℕ) → p < 2 ^ (c.bits * 16) → Below c.bits (engine c b r s (cut c.bits t) (cut c.bits p))
    → engine c b r u (cut c.bits t) (engine c b r s (cut c.bits t) (cut c.bits p)) ≡ cut c.bits p
    → engine_word c b r u t (engine_word c b r s t p) ≡ p
undone_by c b r s u t p h below e =
    ap (λ (x : Cells). joined c.bits (engine c b r u (cut c.bits t) x)) (cut_joined c.bits below) ∙ ap (joined c.bits) e ∙ joined_cut c.bits p h

module _ {c : Cipher} (k : Lawful c) (b r : ℕ) (box : b ≤ 2) {s : Schedule} (g : ScheduleBelow c.bits s) (t : ℕ) where
  -- the engine's word has the bits of sixteen cells
  pub word_below : (p : ℕ) → engine_word c b r s t p < 2 ^ (c.bits * 16)
  word_below p = joined_lt (engine_below k g (omega arith) r (cut_below c.bits t) (cut_below c.bits p))

  -- under any schedule of sixteen cells a word, the turned schedule undoes the first, and the first the turned
  pub word_undone : {p : ℕ} → p < 2 ^ (c.bits * 16) → engine_word c b r (turned c s) t (engine_word c b r s t p) ≡ p
  word_undone {p} h =
      undone_by c b r s (turned c s) t p h (engine_below k g (omega arith) r (cut_below c.bits t) (cut_below c.bits p)) (undone k g (omega arith) r (cut_below c.bits t) (cut_below c.bits p))

  pub word_redone : {p : ℕ} → p < 2 ^ (c.bits * 16) → engine_word c b r s t (engine_word c b r (turned c s) t p) ≡ p
  word_redone {p} h =
      undone_by c b r (turned c s) s t p h (engine_below k (turned_below k g) (omega arith) r (cut_below c.bits t) (cut_below c.bits p)) (redone k g (omega arith) r (cut_below c.bits t) (cut_below c.bits p))

module _ {c : Cipher} (k : Lawful c) (b r : ℕ) (box : b ≤ 2) (n : Numbers) (t p : ℕ) (h : p < 2 ^ (c.bits * 16)) where
  -- on any four words, the engine under the turned ones undoes the engine under the first
  pub turned_undoes : engine_word c b r (cut_numbers c (turned_numbers c n)) t (engine_word c b r (cut_numbers c n) t p) ≡ p
  turned_undoes = ap (λ (u : Schedule). engine_word c b r u t (engine_word c b r (cut_numbers c n) t p)) (cut_turned k n) ∙ word_undone k b r box (numbers_below c n) t h

  -- and the other way round
  pub undoes_turned : engine_word c b r (cut_numbers c n) t (engine_word c b r (cut_numbers c (turned_numbers c n)) t p) ≡ p
  undoes_turned = ap (λ (u : Schedule). engine_word c b r (cut_numbers c n) t (engine_word c b r u t p)) (cut_turned k n) ∙ word_redone k b r box (numbers_below c n) t h

-- turning twice gives the first four words back
pub turned_numbers_twice : {c : Cipher} → Lawful c → (n : Numbers) → Four c n → turned_numbers c (turned_numbers c n) ≡ n
turned_numbers_twice {c} k n h =
    ap (λ (u : Schedule). joined_numbers c (turned c u)) (cut_turned k n) ∙ ap (joined_numbers c) (turned_twice k (numbers_below c n)) ∙ numbers_cut c n h

-- ---- demand 2 (docs/CONTRACTS.md): "three boxes, 3 to 8 rounds, every key, tweak and block", and 3 to 11 for QARMA-128

-- within the limits the first, and never otherwise
module _ {A : Type 0} (c : Cipher) (b r : ℕ) (x y : A) where
  pub within : b ≤ 2 → 3 ≤ r → r ≤ c.rounds → x ≡ sized c b r x y
  within hb lo hi = le_case r c.rounds _ _ hi ∙ le_case 3 r _ _ lo ∙ le_case b 2 _ _ hb

  pub outside_box : 2 < b → y ≡ sized c b r x y
  outside_box hb = gt_case b 2 _ _ hb

  pub outside_few : b ≤ 2 → r < 3 → y ≡ sized c b r x y
  outside_few hb lo = gt_case 3 r _ _ lo ∙ le_case b 2 _ _ hb

  pub outside_many : b ≤ 2 → 3 ≤ r → c.rounds < r → y ≡ sized c b r x y
  outside_many hb lo hi = gt_case r c.rounds _ _ hi ∙ le_case 3 r _ _ lo ∙ le_case b 2 _ _ hb

  -- what holds of both holds of the one
  pub either : (P : A → Type 0) → P x → P y → P (sized c b r x y)
  either P p q = le_either P _ _ (le_either P _ _ (le_either P _ _ p q) q) q

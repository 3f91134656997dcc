-- Demand 2 for frames (docs/CONTRACTS.md): "Opening accepts a frame exactly when sealing some message of the stated length under that key, serial and label produces it, and hands out that message."
use mathlib.Core.Bool.{true, false}
use mathlib.Core.Path.{◌≡◌, refl, sym, ap, ◌∙◌}
use mathlib.Core.List.{List, [], ◌∷◌, ◌++◌}
use mathlib.Core.Logic.{inl, inr}
use Prim.Native.Nat.{ℕ, suc, ◌+◌, ◌-◌, ◌*◌, ◌/◌, ◌%◌, ◌^◌, ◌<◌, ◌≤◌}
use native.Mathlib.Nat.{mul-mod_left}
use native.Mathlib.Omega.{arith}
use borrow.Author.Tests.{eq-eqb, eqb-true, eqb-false, ne_eqb}
use lib.Dec.{eqb}
use lib.ListN.{length, take, drop}
use lib.Pow.{pow-add, pow_pos, mod-mod-pow}
use lib.Seq.{take_at}
use Rattle.words.specs.Cases.{if_yes}
use Rattle.words.specs.Digits.{word, Digits}
use Rattle.refusals.specs.Refusals.{Answer, written}
use Rattle.std.specs.Prelude.{Ok, Err}
use Rattle.refusals.specs.declared.Refusal.TheVariants.{Length, Serial, SealedSize, Room, Disagrees}
use Rattle.words.specs.Lists.{among}
use Rattle.words.proofs.Cases.{le_case, gt_case, yes_case, no_case, yes_or_no, by_lt, not_true_false}
use Rattle.refusals.proofs.Answers.{not_both, Can, can_refused, can_wrote, can_same, can_le, can_yes, can_give, gives}
use Rattle.cells64.specs.Qarma64.{qarma64}
use Rattle.cipher.specs.Engine.{ScheduleBelow, key_schedule, turned}
use Rattle.cipher.specs.declared.Schedule.{Schedule}
use Rattle.cipher.proofs.Demands.{key_below}
use Rattle.frame.specs.Blocks.{part, tweak, opened_purpose}
use Rattle.frame.specs.Frames.{message_max, label_max, serial_max, frame_engine, sealed_size, sealed_bytes, sealing, opened_block, opened_message, accepted, opening, SealedFrom, Within}
use Rattle.frame.proofs.Fills.{fill_found}
use Rattle.frame.proofs.Limits.{goes_on, long_message, long_label, high_serial, can_limited}
use Rattle.frame.proofs.Opening.{accepted_sealed, accepted_both, sealed_length, message_written, sealed_size_lem, sealed_accepted, sealed_message}

module _ (w0 k0 serial : ℕ) (a : List ℕ) where
  -- the schedule of the key
  abbrev s : Schedule
  s = key_schedule qarma64 w0 k0

  g : ScheduleBelow 4 s
  g = key_below qarma64 w0 k0

  -- with enough room, sealing writes the sealed bytes
  pub seals : (m out : List ℕ) → Within serial a (length m) → sealed_size (length m) ≤ length out
      → sealing w0 k0 serial a m out ≡ (Ok (sealed_size (length m)), sealed_bytes s serial a m ++ drop (sealed_size (length m)) out)
  unfolding sealing
  seals m out h room =
      sym (gives (sealed_bytes s serial a m) out _ (sealed_length s serial a m) room ∙ goes_on serial a (length m) out _ h)

  -- outside the limits opening gives 2 or 3
  module _ (n : ℕ) (c out : List ℕ) where
    pub open_message : message_max < n → opening w0 k0 serial n a c out ≡ (Err Length, out)
    unfolding opening
    open_message h = sym (long_message serial a n out _ h)

    pub open_label : n ≤ message_max → label_max < length a → opening w0 k0 serial n a c out ≡ (Err Length, out)
    unfolding opening
    open_label h l = sym (long_label serial a n out _ h l)

    pub open_serial : n ≤ message_max → length a ≤ label_max → serial_max < serial → opening w0 k0 serial n a c out ≡ (Err Serial, out)
    unfolding opening
    open_serial h l k = sym (high_serial serial a n out _ h l k)

  module _ (n : ℕ) (c out : List ℕ) (h : Within serial a n) where
    abbrev found : Answer × List ℕ
    found = if_yes (accepted s serial a n c) (written (opened_message (turned qarma64 s) serial n c) out) (Err Disagrees, out)

    within : n ≤ length out → length c ≡ sealed_size n → opening w0 k0 serial n a c out ≡ found
    unfolding opening
    within room e =
        sym
        (le_case n (length out) found _ room
        ∙ yes_case (eqb (length c) (sealed_size n)) _ _ (eq-eqb (length c) (sealed_size n) e)
        ∙ goes_on serial a n out _ h)

    pub accepts : n ≤ length out → length c ≡ sealed_size n → accepted s serial a n c ≡ true
        → opening w0 k0 serial n a c out ≡ (Ok n, opened_message (turned qarma64 s) serial n c ++ drop n out)
    accepts room e y =
        within room e ∙ sym (message_written (turned qarma64 s) serial n c out ∙ yes_case (accepted s serial a n c) _ _ y)

    pub disagrees : n ≤ length out → length c ≡ sealed_size n → accepted s serial a n c ≡ false → opening w0 k0 serial n a c out ≡ (Err Disagrees, out)
    disagrees room e y = within room e ∙ sym (no_case (accepted s serial a n c) _ (Err Disagrees, out) y)

    -- opening accepts what was sealed, and hands out the message
    pub opens : n ≤ length out → (x : SealedFrom s serial a n c) → opening w0 k0 serial n a c out ≡ (Ok n, x.message ++ drop n out)
    opens room x =
        accepts room (sealed_size_lem g serial a x) (sealed_accepted g serial a x) ∙ ap (λ (m : List ℕ). (Ok n, m ++ drop n out)) (sealed_message g serial a x)

    -- and nothing else: other sealed bytes of the right length are refused, 6
    pub refuses : n ≤ length out → Digits 8 c → length c ≡ sealed_size n → (SealedFrom s serial a n c → ⊥) → opening w0 k0 serial n a c out ≡ (Err Disagrees, out)
    refuses room hc e never = disagrees room e (not_true_false (accepted s serial a n c) (λ y. never (accepted_sealed g serial a n hc e y)))

    pub refuses_size : (length c ≡ sealed_size n → ⊥) → opening w0 k0 serial n a c out ≡ (Err SealedSize, out)
    unfolding opening
    refuses_size other =
        sym
        (no_case (eqb (length c) (sealed_size n)) _ (Err SealedSize, out) (ne_eqb (length c) (sealed_size n) other)
        ∙ goes_on serial a n out _ h)

    -- without the room, refusal 5
    pub no_room : length c ≡ sealed_size n → length out < n → opening w0 k0 serial n a c out ≡ (Err Room, out)
    unfolding opening
    no_room e small =
        sym
        (gt_case n (length out) _ (Err Room, out) small
        ∙ yes_case (eqb (length c) (sealed_size n)) _ _ (eq-eqb (length c) (sealed_size n) e)
        ∙ goes_on serial a n out _ h)

    -- inside the limits and with the right number of sealed bytes, 5 and 6 are left
    pub can_five_six : {ns : List ℕ} → among 5 ns ≡ true → among 6 ns ≡ true → length c ≡ sealed_size n → Can ns out (opening w0 k0 serial n a c out)
    can_five_six five six e =
        by_lt (length out) n (λ l. can_same (no_room e l) (can_refused Room five))
        (λ l. can_same (within l e) (can_yes _ can_wrote (can_refused Disagrees six)))

    pub opens_only : n ≤ length out → Digits 8 c → (k : ℕ) (o : List ℕ) → opening w0 k0 serial n a c out ≡ (Ok k, o) → SealedFrom s serial a n c
    opens_only room hc k o opened =
        elim (yes_or_no (eqb (length c) (sealed_size n))) [
          | inl y ↦
              elim (yes_or_no (accepted s serial a n c)) [
                | inl z ↦ accepted_sealed g serial a n hc (eqb-true _ _ y) z
                | inr z ↦ absurd (not_both (sym opened ∙ disagrees room (eqb-true _ _ y) z))
              ]
          | inr y ↦ absurd (not_both (sym opened ∙ refuses_size (eqb-false _ _ y)))
        ]

  -- "Sealing can give 2, 3, 5"
  pub seal_can : (m out : List ℕ) → Can (2 ∷ 3 ∷ 5 ∷ []) out (sealing w0 k0 serial a m out)
  unfolding sealing
  seal_can m out = can_limited _ _ _ refl refl (can_give (sealed_bytes s serial a m) refl)

  -- "opening 2 to 6"
  pub open_can : (n : ℕ) (c out : List ℕ) → Can (2 ∷ 3 ∷ 4 ∷ 5 ∷ 6 ∷ []) out (opening w0 k0 serial n a c out)
  unfolding opening
  open_can n c out = can_limited _ _ _ refl refl (can_yes _ (can_le _ _ (can_yes _ can_wrote (can_refused Disagrees refl)) (can_refused Room refl)) (can_refused SealedSize refl))

  -- opening what was sealed gives the message back: sealed into one memory, opened into another
  pub comes_back : (m out into : List ℕ) → Digits 8 m → Within serial a (length m) → sealed_size (length m) ≤ length out → length m ≤ length into
      → opening w0 k0 serial (length m) a (take (sealed_size (length m)) (sealing w0 k0 serial a m out).1) into ≡ (Ok (length m), m ++ drop (length m) into)
  comes_back m out into hm h room enough =
      let x : SealedFrom s serial a (length m) (sealed_bytes s serial a m) = record { message = m; bytes = hm; size = refl; sealed = refl } in
      ap (λ (r : Answer × List ℕ). opening w0 k0 serial (length m) a (take (sealed_size (length m)) r.1) into) (seals m out h room)
      ∙ ap (λ (c : List ℕ). opening w0 k0 serial (length m) a c into) (take_at (sealed_bytes s serial a m) _ (sealed_size (length m)) (sealed_size_lem g serial a x))
      ∙ opens (length m) (sealed_bytes s serial a m) into h enough x

  -- one message at a length
  pub one_message : {n : ℕ} {c : List ℕ} (x y : SealedFrom s serial a n c) → x.message ≡ y.message
  one_message x y = sym (sealed_message g serial a x) ∙ sealed_message g serial a y

-- ---- "Accepting any fill after the stated length, so that one sealed text opens at two lengths": at most one length with a fill, and at most one without

-- a one bit and zeros behind it stand in one place only
one_mark : (w j k : ℕ) → w % 2 ^ suc j ≡ 2 ^ j → w % 2 ^ suc k ≡ 2 ^ k → j < k → ⊥
one_mark w j k hj hk l =
    let e : k - j + suc j ≡ suc k = omega arith in
    let d : k - suc j + suc j ≡ k = omega arith in
    let nought : 2 ^ j ≡ 0 =
    sym hj
    ∙ sym (mod-mod-pow w (k - j) (suc j))
    ∙ ap (λ (x : ℕ). w % 2 ^ x % 2 ^ suc j) e
    ∙ ap (λ (x : ℕ). x % 2 ^ suc j) (hk ∙ ap (λ (x : ℕ). 2 ^ x) (sym d) ∙ pow-add 2 (k - suc j) (suc j))
    ∙ mul-mod_left (2 ^ (k - suc j)) (2 ^ suc j) in
    absurd (omega (arith, pow_pos j, nought))

one_fill : (w r q : ℕ) → r < 8 → q < 8 → w % 2 ^ (64 - r * 8) ≡ 2 ^ (63 - r * 8) → w % 2 ^ (64 - q * 8) ≡ 2 ^ (63 - q * 8) → r < q → ⊥
one_fill w r q hr hq er eq l =
    let a : 64 - r * 8 ≡ suc (63 - r * 8) = omega arith in
    let b : 64 - q * 8 ≡ suc (63 - q * 8) = omega arith in
    one_mark w (63 - q * 8) (63 - r * 8) (ap (λ (x : ℕ). w % 2 ^ x) (sym b) ∙ eq) (ap (λ (x : ℕ). w % 2 ^ x) (sym a) ∙ er) (omega arith)

module _ {s : Schedule} (g : ScheduleBelow 4 s) (serial : ℕ) (a c : List ℕ) where
  -- the last block at a length with a fill
  last_fill : (n q : ℕ) → n / 8 ≡ q → 1 ≤ n % 8 → SealedFrom s serial a n c
      → frame_engine (turned qarma64 s) (tweak 1 serial q) (word 8 (part c q)) % 2 ^ (64 - n % 8 * 8) ≡ 2 ^ (63 - n % 8 * 8)
  unfolding opened_purpose
  last_fill n q e h x =
      let one : 1 ≡ opened_purpose n q = gt_case (q * 8 + 8) n 0 1 (omega arith) in
      ap (λ (i : ℕ). frame_engine (turned qarma64 s) (tweak i serial q) (word 8 (part c q)) % 2 ^ (64 - n % 8 * 8)) one
      ∙ ap (λ (i : ℕ). opened_block (turned qarma64 s) serial n c i % 2 ^ (64 - n % 8 * 8)) (sym e)
      ∙ fill_found n (opened_block (turned qarma64 s) serial n c (n / 8)) h (accepted_both g serial a n c (sealed_accepted g serial a x)).0

  -- at two lengths with a fill
  pub one_length_filled : (n k : ℕ) → 1 ≤ n % 8 → 1 ≤ k % 8 → SealedFrom s serial a n c → SealedFrom s serial a k c → n ≡ k
  one_length_filled n k hn hk x y =
      let size : sealed_size n ≡ sealed_size k = sym (sealed_size_lem g serial a x) ∙ sealed_size_lem g serial a y in
      let q : k / 8 ≡ n / 8 = omega arith in
      let fn = last_fill n (n / 8) refl hn x in
      let fk = last_fill k (n / 8) q hk y in
      let w = frame_engine (turned qarma64 s) (tweak 1 serial (n / 8)) (word 8 (part c (n / 8))) in
      by_lt (n % 8) (k % 8) (λ l. absurd (one_fill w (n % 8) (k % 8) (omega arith) (omega arith) fn fk l))
      (λ j. by_lt (k % 8) (n % 8) (λ l. absurd (one_fill w (k % 8) (n % 8) (omega arith) (omega arith) fk fn l)) (λ l. omega arith))

  -- and at two without
  pub one_length_whole : (n k : ℕ) → n % 8 ≡ 0 → k % 8 ≡ 0 → SealedFrom s serial a n c → SealedFrom s serial a k c → n ≡ k
  one_length_whole n k hn hk x y =
      let size : sealed_size n ≡ sealed_size k = sym (sealed_size_lem g serial a x) ∙ sealed_size_lem g serial a y in
      omega arith

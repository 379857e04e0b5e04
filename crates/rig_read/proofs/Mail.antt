-- The tests of the mail, slot by slot and, of unused slots, byte by byte: both together are what is tested of the mail.
use mathlib.Core.Path.{◌≡◌, refl, sym, ap, ◌∙◌}
use mathlib.Core.Bool.{Bool, true, false, ◌&&◌}
use mathlib.Core.List.{List, [], ◌∷◌}
use mathlib.Core.Logic.{by_cases, ◌⊎◌, inl, inr}
use Prim.Native.Nat.{ℕ, zero, suc, ◌+◌, ◌*◌, ◌-◌, ◌/◌, ◌%◌, ◌<◌, ◌≤◌}
use native.Mathlib.Omega.{arith}
use native.Mathlib.Decide.{dec_lt}
use lib.Dec.{eqb}
use lib.ListN.{length, get_or, take, length-map, get_or-map}
use lib.Seq.{get_or-take, length-take-le}
use borrow.Author.Tests.{lt-ltb, le-ltb, lt-leb, le-leb, eqb-true, eq-eqb}
use Rattle.base.specs.Range.{below}
use Rattle.base.proofs.Tests.{and_left, and_right, and_true, and_false, is_false, tests_differ, below_all, below_at, below_fails, below_cases}
use Rattle.base.proofs.Folds.{fold_same}
use Rattle.base.proofs.Tables.{length_table}
use Rattle.rules.specs.declared.message.Message.{Message}
use Rattle.rules.specs.declared.message.Message.TheVariants.{Empty}
use Rattle.rules.specs.declared.message.Slot.{Slot}
use Rattle.rules.specs.Networks.{no_slot, messages}
use Rattle.rules.specs.Sound.{message_ok, network_ok}
use Rattle.image.specs.Numbers.{number_at, same_bytes}
use Rattle.image.specs.Letters.{letter_of, letter_numbers}
use Rattle.image.specs.Image.{network_in}
use Rattle.image_laws.specs.Parts.{slot_tidy, mail_tidy}
use Rattle.image_laws.proofs.Mails.{letter_in_lem}
use Rattle.rig_read.specs.Passing.{zeros_at, slot_passes, mail_passes}
use Rattle.rig_read.proofs.Passing.{every_entry}

-- a number is 0 where its bytes are
zero_bytes : (w : ℕ) (b : List ℕ) (at : ℕ) → ((i : ℕ) → i < w → get_or b (at + i) 0 ≡ 0) → number_at w b at ≡ 0
unfolding number_at
zero_bytes zero b at h = refl
zero_bytes (suc w) b at h =
    let e : at + 0 ≡ at = omega arith in
    let first : get_or b at 0 ≡ 0 = rw e at (h 0 (omega arith)) in
    let rest : number_at w b (suc at) ≡ 0 =
    zero_bytes w b (suc at) (λ i l. let q : suc at + i ≡ at + suc i = omega arith in rw q (h (suc i) (omega arith))) in
    omega arith

bytes_zero : (w : ℕ) (b : List ℕ) (at : ℕ) → number_at w b at ≡ 0 → (i : ℕ) → i < w → get_or b (at + i) 0 ≡ 0
unfolding number_at
bytes_zero zero b at h i l = absurd (omega arith)
bytes_zero (suc w) b at h zero l = let e : at + 0 ≡ at = omega arith in rw e (omega arith)
bytes_zero (suc w) b at h (suc i) l =
    let q : at + suc i ≡ suc at + i = omega arith in
    rw q (bytes_zero w b (suc at) (omega arith) i (omega arith))

module _ (n m : ℕ) (b : List ℕ) where
  abbrev used : ℕ
  used = number_at 4 b 8

  abbrev first : ℕ → ℕ
  first k = number_at 8 b (30024 + 16 * k)

  abbrev second : ℕ → ℕ
  second k = number_at 8 b (30032 + 16 * k)

  abbrev tidy : ℕ → Bool
  tidy k = same_bytes (letter_numbers (letter_of (first k) (second k))) (first k ∷ second k ∷ [])

  -- a slot in use passes
  abbrev pub in_use : ℕ → Bool
  in_use k = slot_passes n m (first k) (second k)

  used_in : (network_in b).used ≡ used
  unfolding network_in
  used_in = refl

  room : length (network_in b).slots ≡ 256
  unfolding network_in
  room = length_table 256 _

  pub mail_over : 256 < used → false ≡ mail_passes n m b
  unfolding network_ok
  mail_over h = rw (used_in, lt-leb used 256 h) (sym (and_false (mail_tidy b)))

  module _ (few : used ≤ 256) where
    tidy_in : (k : ℕ) → k < used → slot_tidy used k (first k) (second k) ≡ tidy k
    tidy_in k l = rw (lt-ltb k used l) refl

    abbrev in_slot : Slot → Message
    in_slot s = s.message

    message_in : (k : ℕ) → k < used → get_or (messages (network_in b)) k Empty ≡ letter_of (first k) (second k)
    unfolding messages
    message_in k l =
        get_or-map in_slot (take (network_in b).used (network_in b).slots) k no_slot
        ∙ ap in_slot (get_or-take (network_in b).used (network_in b).slots k no_slot (rw used_in l))
        ∙ letter_in_lem b k (omega arith)

    count : length (messages (network_in b)) ≡ used
    unfolding messages
    count =
        length-map (take (network_in b).used (network_in b).slots) in_slot
        ∙ length-take-le (network_in b).used (network_in b).slots (omega (arith, used_in, room))
        ∙ used_in

    -- the letters in use, one by one
    letters_in : network_ok n m (network_in b) ≡ below used (λ k. message_ok n m (letter_of (first k) (second k)))
    unfolding network_ok network_in
    letters_in =
        rw (used_in, le-leb used 256 few)
        (every_entry (message_ok n m) used (messages (network_in b)) Empty count
        ∙ fold_same ◌&&◌ true used (λ k. message_ok n m (get_or (messages (network_in b)) k Empty)) (λ k. message_ok n m (letter_of (first k) (second k)))
        (λ k l. ap (message_ok n m) (message_in k l)))

    pub mail_stops : (k : ℕ) → k < used → in_use k ≡ false → false ≡ mail_passes n m b
    unfolding mail_tidy
    mail_stops k l e = go (tidy k) refl
      where
        go : (t : Bool) → tidy k ≡ t → false ≡ mail_passes n m b
        go false q =
            rw (below_fails (λ k. slot_tidy used k (first k) (second k)) 256 k (omega arith) (tidy_in k l ∙ q)) refl
        go true q =
            rw (letters_in, below_fails (λ k. message_ok n m (letter_of (first k) (second k))) used k l (rw q at e)) (sym (and_false (mail_tidy b)))

    abbrev zeros : Bool
    zeros = zeros_at b (30024 + 16 * used) (4096 - 16 * used)

    -- an unused slot of zeros
    unused_tidy : zeros ≡ true → (k : ℕ) → used ≤ k → k < 256 → slot_tidy used k (first k) (second k) ≡ true
    unfolding same_bytes
    unused_tidy h k l r =
        let byte : (i : ℕ) → 30024 + 16 * used ≤ i → i < 34120 → get_or b i 0 ≡ 0 =
        λ i p q.
        let s : 30024 + 16 * used + (i - (30024 + 16 * used)) ≡ i = omega arith in
        rw s at (eqb-true (get_or b (30024 + 16 * used + (i - (30024 + 16 * used))) 0) 0 (below_at (λ j. eqb (get_or b (30024 + 16 * used + j) 0) 0) (4096 - 16 * used) (i - (30024 + 16 * used)) (omega arith) h)) in
        let v : first k ≡ 0 = zero_bytes 8 b (30024 + 16 * k) (λ i q. byte (30024 + 16 * k + i) (omega arith) (omega arith)) in
        let w : second k ≡ 0 = zero_bytes 8 b (30032 + 16 * k) (λ i q. byte (30032 + 16 * k + i) (omega arith) (omega arith)) in
        rw (le-ltb k used l, v, w) refl

    -- a byte of an unused slot that is not 0
    unused_fails : (i : ℕ) → i < 4096 - 16 * used → eqb (get_or b (30024 + 16 * used + i) 0) 0 ≡ false → mail_tidy b ≡ false
    unfolding mail_tidy same_bytes
    unused_fails i l e =
        is_false (mail_tidy b)
        (λ h.
        let k = used + i / 16 in
        let o = i % 16 in
        let t : eqb 0 (first k) && (eqb 0 (second k) && true) ≡ true =
        rw (le-ltb k used (omega arith)) at (below_at (λ k. slot_tidy used k (first k) (second k)) 256 k (omega arith) h) in
        let v : 0 ≡ first k = eqb-true 0 (first k) (and_left (eqb 0 (first k)) (eqb 0 (second k) && true) t) in
        let w : 0 ≡ second k = eqb-true 0 (second k) (and_left (eqb 0 (second k)) true (and_right (eqb 0 (first k)) (eqb 0 (second k) && true) t)) in
        let z : get_or b (30024 + 16 * used + i) 0 ≡ 0 =
        by_cases (dec_lt o 8)
        (λ q.
        let s : 30024 + 16 * k + o ≡ 30024 + 16 * used + i = omega arith in
        rw s at (bytes_zero 8 b (30024 + 16 * k) (sym v) o q))
        (λ q.
        let s : 30032 + 16 * k + (o - 8) ≡ 30024 + 16 * used + i = omega arith in
        rw s at (bytes_zero 8 b (30032 + 16 * k) (sym w) (o - 8) (omega arith))) in
        tests_differ (eq-eqb _ _ z) e)

    module _ (h : below used in_use ≡ true) where
      all_tidy : zeros ≡ true → mail_tidy b ≡ true
      unfolding mail_tidy
      all_tidy z =
          below_all _ 256
          (λ k r.
          by_cases
          (dec_lt k used)
          (λ l. tidy_in k l ∙ and_left (tidy k) (message_ok n m (letter_of (first k) (second k))) (below_at in_use used k l h))
          (λ l. unused_tidy z k (omega arith) r))

      zeros_tidy : (zeros ≡ true) ⊎ ((i : ℕ) × (i < 4096 - 16 * used) × (eqb (get_or b (30024 + 16 * used + i) 0) 0 ≡ false)) → zeros ≡ mail_tidy b
      zeros_tidy (inl z) = z ∙ sym (all_tidy z)
      zeros_tidy (inr (i, l, e)) =
          below_fails (λ j. eqb (get_or b (30024 + 16 * used + j) 0) 0) (4096 - 16 * used) i l e ∙ sym (unused_fails i l e)

      letters : network_ok n m (network_in b) ≡ true
      letters = letters_in ∙ below_all (λ k. message_ok n m (letter_of (first k) (second k))) used
          (λ k l. and_right (tidy k) (message_ok n m (letter_of (first k) (second k))) (below_at in_use used k l h))

      pub mail_ends : zeros ≡ mail_passes n m b
      mail_ends =
          rw (letters, and_true (mail_tidy b)) (zeros_tidy (below_cases (λ j. eqb (get_or b (30024 + 16 * used + j) 0) 0) (4096 - 16 * used)))

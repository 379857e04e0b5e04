-- The letters of an image by their bytes: byte 2 of each is the desk that it goes to.
use mathlib.Core.Path.{◌≡◌, refl, sym, ◌∙◌, ap}
use mathlib.Core.Bool.{Bool, true, false}
use mathlib.Core.List.{List}
use Prim.Native.Nat.{ℕ, suc, ◌+◌, ◌*◌, ◌<◌, ◌≤◌}
use native.Mathlib.Omega.{arith}
use lib.Dec.{eqb}
use lib.ListN.{length, get_or}
use borrow.Author.Tests.{lt-ltb}
use Rattle.plan.specs.declared.ProcessorId.{ProcessorId}
use Rattle.plan_laws.proofs.Held.{Held}
use Rattle.rules.specs.declared.message.Message.{Message}
use Rattle.rules.specs.declared.message.Message.TheVariants.{Empty, Offered, Advert, ReadyToReceive, Data, Terminated, Migration}
use Rattle.rules.specs.Networks.{messages}
use Rattle.rules.specs.Dispatch.{addressee, earliest}
use Rattle.board.specs.packing.Packed.{byte2}
use Rattle.dispatch.specs.Letters.{is_for}
use Rattle.dispatch.proofs.Letters.{none_earliest, first_earliest}
use Rattle.image.specs.Numbers.{number_bytes, numbers_bytes, number_at}
use Rattle.image.specs.Letters.{letter_numbers, mail_numbers}
use Rattle.image.specs.Image.{image, network_in, rig_of, is_image}
use Rattle.image_laws.specs.Held.{LetterFits}
use Rattle.image_laws.proofs.Same.{same_bytes_true}
use Rattle.image_laws.proofs.Numbers.{length_number, held_numbers_at}
use Rattle.image_laws.proofs.Letters.{letter_fits}
use Rattle.image_laws.proofs.Mails.{letter_in, length_mail, slot_first, letter_in_lem}
use Rattle.image_laws.proofs.Sections.{mail_bytes_held}
use Rattle.image_laws.proofs.Parts.{rig_sizes}
use Rattle.image_laws.proofs.Read.{image_tidy}

-- the first number of a letter has the addressee in byte 2
to_number : (m : Message) → LetterFits m → byte2 (get_or (letter_numbers m) 0 0) ≡ (addressee m).0
unfolding letter_numbers addressee
to_number Empty f = refl
to_number (Offered c o h) f = omega (arith, f.0, f.1.0, f.1.1, f.2.0, f.2.1)
to_number (Advert c d from) f = omega (arith, f.0, f.1, f.2)
to_number (ReadyToReceive c d h) f = omega (arith, f.0, f.1, f.2.0, f.2.1)
to_number (Data c d w) f = omega (arith, f.0, f.1)
to_number (Terminated h t) f = omega (arith, f.0.0, f.0.1, f.1)
to_number (Migration d t) f = omega (arith, f.0, f.1)

-- byte 2 of a number that was written
third_byte : (v : ℕ) → get_or (number_bytes 8 v) 2 0 ≡ byte2 v
unfolding number_bytes
third_byte v = omega arith

module _ (b : List ℕ) (isOne : is_image b ≡ true) where
  -- an image holds the numbers of its letters
  mail_held : Held b 30024 (numbers_bytes 8 (mail_numbers (network_in b)))
  unfolding is_image rig_of
  mail_held = mail_bytes_held b (rig_of b) (same_bytes_true b (image (rig_of b)) isOne) (rig_sizes b)

  used_is : (network_in b).used ≡ number_at 4 b 8
  unfolding network_in
  used_is = refl

  module _ (few : number_at 4 b 8 ≤ 256) where
    -- the desk that a letter goes to
    pub addressed : (k : ℕ) → k < number_at 4 b 8 → (addressee (letter_in (network_in b) k)).0 ≡ get_or b (30026 + 16 * k) 0
    addressed k l =
        let n = network_in b in
        let m = letter_in n k in
        let q : k < 256 = omega arith in
        let f : LetterFits m = rw (letter_in_lem b k q) (letter_fits (number_at 8 b (30024 + 16 * k)) (number_at 8 b (30032 + 16 * k))) in
        let v = get_or (mail_numbers n) (2 * k) 0 in
        let first : v ≡ get_or (letter_numbers m) 0 0 =
        slot_first n (mail_numbers n) refl k q ∙ rw (lt-ltb k (network_in b).used (rw used_is l)) refl in
        let h : Held b (30024 + 8 * (2 * k)) (number_bytes 8 v) = held_numbers_at 8 (mail_numbers n) b 30024 (2 * k) mail_held (omega (arith, length_mail n)) in
        let t : get_or b (30024 + 8 * (2 * k) + 2) 0 ≡ byte2 v = h 2 (omega (arith, length_number 8 v)) ∙ third_byte v in
        let e : 30024 + 8 * (2 * k) + 2 ≡ 30026 + 16 * k = omega arith in
        sym (to_number m f) ∙ ap (λ (x : ℕ). byte2 x) (sym first) ∙ sym t ∙ ap (λ (i : ℕ). get_or b i 0) e

    module _ (d : ProcessorId) where
      -- byte 2 of the letter after the first k is the desk
      abbrev pub to_desk : ℕ → Bool
      to_desk k = eqb (get_or b (30026 + 16 * k) 0) d.0

      for_desk : (k : ℕ) → k < number_at 4 b 8 → is_for d (letter_in (network_in b) k) ≡ to_desk k
      for_desk k l = ap (λ (x : ℕ). eqb x d.0) (addressed k l)

      pub none_in : ((i : ℕ) → i < number_at 4 b 8 → to_desk i ≡ false) → earliest d (messages (network_in b)) ≡ 0
      none_in h =
          none_earliest d (network_in b) (image_tidy b isOne).long (omega (arith, used_is))
          (λ i l. let q : i < number_at 4 b 8 = omega (arith, used_is, l) in for_desk i q ∙ h i q)

      pub earliest_at : (k : ℕ) → k < number_at 4 b 8 → ((i : ℕ) → i < k → to_desk i ≡ false) → to_desk k ≡ true
          → earliest d (messages (network_in b)) ≡ suc k
      earliest_at k l h e =
          first_earliest d (network_in b) (image_tidy b isOne).long (omega (arith, used_is)) k (omega (arith, used_is)) (λ i q. for_desk i (omega arith) ∙ h i q)
          (for_desk k l ∙ e)

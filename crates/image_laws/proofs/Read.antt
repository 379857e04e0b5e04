-- The rig that an image holds is one that an image can hold, and its mail is tidy.
use mathlib.Core.Path.{◌≡◌, refl, sym, ◌∙◌, ap}
use mathlib.Core.Bool.{true}
use mathlib.Core.List.{List}
use Prim.Native.Nat.{ℕ, ◌+◌, ◌*◌, ◌^◌, ◌<◌, ◌≤◌}
use native.Mathlib.Nat.{one-le-pow}
use native.Mathlib.Omega.{arith}
use lib.ListN.{length, get_or}
use borrow.Author.Tests.{le-ltb}
use Rattle.std.specs.Prelude.{Ok}
use Rattle.base.proofs.Tables.{length_table, get_d_table}
use Rattle.plan.specs.Files.{file_answer}
use Rattle.plan.specs.Outcomes.{plan_read}
use Rattle.plan_laws.specs.Bytes.{Bytes}
use Rattle.rules.specs.Networks.{slot, no_slot}
use Rattle.image.specs.Numbers.{number_at, numbers_at}
use Rattle.image.specs.Letters.{letter_of, mail_numbers}
use Rattle.image.specs.Image.{image, plan_file, network_in, chosen_in, rig_of, is_image}
use Rattle.image_laws.specs.Parts.{lent_in}
use Rattle.image_laws.specs.Held.{Array, MailFits, Imaged}
use Rattle.image_laws.proofs.Same.{same_bytes_true}
use Rattle.image_laws.proofs.Numbers.{length_numbers_at, held_numbers, number_below, numbers_below}
use Rattle.image_laws.proofs.Letters.{letter_fits}
use Rattle.image_laws.proofs.Plans.{plan_fits}
use Rattle.image_laws.proofs.Mails.{length_mail, mail_in, first_in, second_in, slot_first, slot_second, letter_in_lem, again_fits}
use Rattle.image_laws.proofs.Sections.{mail_bytes_held}
use Rattle.image_laws.proofs.Parts.{all_below, board_long, board_small, rig_sizes, rig_parts}
use Rattle.image_laws.proofs.Imaged.{LentFits, imaged_parts}
use Rattle.image_laws.proofs.Unused.{Tidy}

module _ (b : List ℕ) where
  slots_long : length (network_in b).slots ≡ 256
  unfolding network_in
  slots_long = length_table 256 _

  network_of : (rig_of b).network ≡ network_in b
  unfolding rig_of
  network_of = refl

  -- the unused slots of an image
  module _ (same : b ≡ image (rig_of b)) where
    numbers_are : mail_in b ≡ mail_numbers (network_in b)
    numbers_are =
        let h = mail_bytes_held b (rig_of b) same (rig_sizes b) in
        ap (λ (n : ℕ). numbers_at 8 n b 30024) (sym (length_mail (network_in b)))
        ∙ held_numbers 8 (mail_numbers (network_in b)) b 30024 (rw network_of at h) (λ i l. again_fits b i)

    empty : (k : ℕ) → (network_in b).used ≤ k → k < 256 → get_or (network_in b).slots k no_slot ≡ no_slot
    empty k u l =
        let free = le-ltb k (network_in b).used u in
        let v : number_at 8 b (30024 + 16 * k) ≡ 0 = sym (first_in b k l) ∙ slot_first (network_in b) (mail_in b) numbers_are k l ∙ rw free refl in
        let w : number_at 8 b (30032 + 16 * k) ≡ 0 = sym (second_in b k l) ∙ slot_second (network_in b) (mail_in b) numbers_are k l ∙ rw free refl in
        slot_is k l ∙ rw (v, w) (unfold letter_of in refl)
      where
        slot_is : (k : ℕ) → k < 256 → get_or (network_in b).slots k no_slot ≡ slot (letter_of (number_at 8 b (30024 + 16 * k)) (number_at 8 b (30032 + 16 * k)))
        slot_is k l =
            unfold network_in in get_d_table 256 (λ k. slot (letter_of (number_at 8 b (30024 + 16 * k)) (number_at 8 b (30032 + 16 * k)))) k no_slot l

    mail_is_tidy : Tidy (network_in b)
    mail_is_tidy = record { long = slots_long; unused = empty }

  pub image_tidy : is_image b ≡ true → Tidy (network_in b)
  unfolding is_image
  image_tidy h = mail_is_tidy (same_bytes_true b (image (rig_of b)) h)

  -- numbers that are read fit
  read_array : (w n at : ℕ) → Bytes b → Array n (256 ^ w) (numbers_at w n b at)
  read_array w n at bytes = record { long = length_numbers_at w n b at; small = all_below (256 ^ w) (numbers_at w n b at) (one-le-pow w 256 (omega arith)) (numbers_below w n b at bytes) }

  module _ (bytes : Bytes b) where
    pub lent_fits : LentFits (lent_in b)
    lent_fits =
        record {
          hintprocessors = read_array 1 768 25416 bytes;
          hintmoves = read_array 2 768 26184 bytes;
          heldprocessors = read_array 1 768 27720 bytes;
          heldnumbers = read_array 1 768 28488 bytes;
          notes = read_array 1 768 29256 bytes;
          board = record { long = board_long b; small = board_small b bytes };
        }

    used_small : (network_in b).used < 4294967296
    unfolding network_in
    used_small = number_below 4 b 8 bytes

    pub mail_fits : Tidy (network_in b) → MailFits (network_in b)
    mail_fits t =
        record {
          long = t.long;
          used = used_small;
          letters = λ k u l. rw (letter_in_lem b k l) (letter_fits (number_at 8 b (30024 + 16 * k)) (number_at 8 b (30032 + 16 * k)));
          unused = t.unused;
        }

    chosen_array : Array 6 256 (chosen_in b)
    unfolding chosen_in
    chosen_array = read_array 1 6 14 bytes

    pub rig_imaged : is_image b ≡ true → file_answer (plan_file b) ≡ Ok tt → Imaged (rig_of b)
    rig_imaged h accepted =
        let (ok, clear) = plan_fits (plan_file b) accepted in
        rw (rig_parts b)
        (imaged_parts (get_or b 12 0) (plan_read (plan_file b)).plan (lent_in b) (network_in b) (chosen_in b) (bytes 12) ok clear lent_fits (mail_fits (image_tidy h)) chosen_array)

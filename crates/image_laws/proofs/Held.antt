-- The image of a rig holds that rig.
use mathlib.Core.Path.{◌≡◌, refl, sym, ◌∙◌, ap}
use mathlib.Core.Bool.{true}
use mathlib.Core.List.{List}
use Prim.Native.Nat.{ℕ}
use native.Mathlib.Omega.{arith}
use lib.ListN.{length, take, drop}
use Rattle.plan.specs.Programs.{programs}
use Rattle.plan.specs.Outcomes.{plan_read}
use Rattle.plan_laws.proofs.Held.{Held}
use Rattle.rules.specs.declared.system.System.{System}
use Rattle.board.specs.Lent.{tasks_on, channels_on, parents_on}
use Rattle.image.specs.Numbers.{number_at, numbers_at, same_bytes}
use Rattle.image.specs.Letters.{mail_numbers}
use Rattle.image.specs.Image.{rig_size, board_numbers, plan_bytes, image, plan_file, board_in, tables_in, network_in, chosen_in, rig_of, is_image}
use Rattle.image_laws.specs.Held.{Imaged, EveryRigHeld}
use Rattle.image_laws.proofs.Same.{same_bytes_refl}
use Rattle.image_laws.proofs.Numbers.{held_number_lem, held_numbers, held_bytes, held_piece}
use Rattle.image_laws.proofs.Plans.{layout_size, plan_held}
use Rattle.image_laws.proofs.BoardsHeld.{length_numbers_of, channels_held, tasks_held, parents_held, numbers_fit}
use Rattle.image_laws.proofs.Mails.{length_mail, mail_below, mail_held}
use Rattle.image_laws.proofs.Sections.{Sizes, length_image, long_held, used_held, desks_held, chosen_held, plan_bytes_held, board_bytes_held, hintprocessors_held, hintmoves_held, heldprocessors_held, heldnumbers_held, notes_held, mail_bytes_held}

pub imaged_sizes : (r : System) → Imaged r → Sizes r
imaged_sizes r i =
    record {
      plan = layout_size (programs r.plan) i.accepted;
      chosen = i.chosen.long;
      ready = i.tasks.ready.long;
      hintprocessors = i.tables.hintprocessors.long;
      hintmoves = i.tables.hintmoves.long;
      heldprocessors = i.tables.heldprocessors.long;
      heldnumbers = i.tables.heldnumbers.long;
      notes = i.tables.notes.long;
    }

pub image_size : (r : System) → Imaged r → length (image r) ≡ rig_size
image_size r i = length_image r (imaged_sizes r i)

-- n bytes that are held
read_bytes : (n : ℕ) (xs b : List ℕ) (at : ℕ) → length xs ≡ n → Held b at xs → numbers_at 1 n b at ≡ xs
read_bytes n xs b at e h = ap (λ (m : ℕ). numbers_at 1 m b at) (sym e) ∙ held_bytes xs b at h

-- bytes that are the image of a rig
module _ (b : List ℕ) (r : System) (same : b ≡ image r) (i : Imaged r) where
  abbrev sizes : Sizes r
  sizes = imaged_sizes r i

  plan_long : number_at 4 b 4 ≡ length (plan_bytes r)
  plan_long = held_number_lem 4 (length (plan_bytes r)) b 4 (long_held b r same sizes) (omega (arith, sizes.plan))

  file_is : plan_file b ≡ plan_bytes r
  file_is =
      ap (λ (n : ℕ). take n (drop 20 b)) plan_long
      ∙ held_piece (plan_bytes r) b 20 (plan_bytes_held b r same sizes) (omega (arith, sizes.plan, length_image r sizes, ap length same))

  plan_is : (plan_read (plan_file b)).plan ≡ r.plan
  plan_is = ap (λ (f : List ℕ). (plan_read f).plan) file_is ∙ plan_held r.plan i.accepted i.clear

  board_is : board_in b ≡ board_numbers r
  unfolding board_in
  board_is =
      let small = numbers_fit r i.tasks i.channels i.parents in
      ap (λ (n : ℕ). numbers_at 8 n b 16664) (sym (length_numbers_of r i.tasks.ready.long))
      ∙ held_numbers 8 (board_numbers r) b 16664 (board_bytes_held b r same sizes) (λ k l. small k)

  moves_is : numbers_at 2 768 b 26184 ≡ r.tables.hintmoves
  moves_is =
      ap (λ (n : ℕ). numbers_at 2 n b 26184) (sym i.tables.hintmoves.long)
      ∙ held_numbers 2 r.tables.hintmoves b 26184 (hintmoves_held b r same sizes) (λ k l. i.tables.hintmoves.small k)

  tables_is : tables_in b ≡ r.tables
  unfolding tables_in
  tables_is =
      let t = i.tables in
      let hp = read_bytes 768 r.tables.hintprocessors b 25416 t.hintprocessors.long (hintprocessors_held b r same sizes) in
      let ep = read_bytes 768 r.tables.heldprocessors b 27720 t.heldprocessors.long (heldprocessors_held b r same sizes) in
      let en = read_bytes 768 r.tables.heldnumbers b 28488 t.heldnumbers.long (heldnumbers_held b r same sizes) in
      let no = read_bytes 768 r.tables.notes b 29256 t.notes.long (notes_held b r same sizes) in
      λ j. record { hintprocessors = hp j; hintmoves = moves_is j; heldprocessors = ep j; heldnumbers = en j; notes = no j }

  chosen_is : chosen_in b ≡ r.chosen
  unfolding chosen_in
  chosen_is = read_bytes 6 r.chosen b 14 i.chosen.long (chosen_held b r same sizes)

  used_is : number_at 4 b 8 ≡ r.network.used
  used_is = held_number_lem 4 r.network.used b 8 (used_held b r same sizes) i.network.used

  network_is : network_in b ≡ r.network
  network_is =
      let small = mail_below r.network i.network.letters in
      mail_held b r.network i.network
      (ap (λ (n : ℕ). numbers_at 8 n b 30024) (sym (length_mail r.network))
      ∙ held_numbers 8 (mail_numbers r.network) b 30024 (mail_bytes_held b r same sizes) (λ k l. small k))
      used_is

  pub rig_held : rig_of b ≡ r
  unfolding rig_of
  rig_held =
      let p = desks_held b r same sizes in
      let ts = ap tasks_on board_is ∙ tasks_held r i.tasks in
      let cs = ap channels_on board_is ∙ channels_held r i.channels in
      let ps = ap parents_on board_is ∙ parents_held r i.parents in
      λ j.
      record {
        processors = p j;
        plan = plan_is j;
        tasks = ts j;
        tables = tables_is j;
        channels = cs j;
        parents = ps j;
        network = network_is j;
        chosen = chosen_is j;
      }

pub image_held : (r : System) → Imaged r → rig_of (image r) ≡ r
image_held r i = rig_held (image r) r refl i

pub image_is : (r : System) → Imaged r → is_image (image r) ≡ true
unfolding is_image
image_is r i = ap (λ (q : System). same_bytes (image r) (image q)) (image_held r i) ∙ same_bytes_refl (image r)

pub every_rig_held : EveryRigHeld
every_rig_held r i = record { size = image_size r i; rig = image_held r i; is = image_is r i }

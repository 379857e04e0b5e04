-- The parts that a step can change, written into an image, are the image of the rig with these parts.
use mathlib.Core.Path.{◌≡◌, sym, ◌∙◌, ap}
use mathlib.Core.Bool.{true}
use mathlib.Core.List.{List, [], ◌∷◌, ◌++◌, append_assoc}
use Prim.Native.Nat.{ℕ}
use native.Mathlib.Omega.{arith}
use lib.ListN.{length, take, drop}
use Rattle.rules.specs.declared.message.Network.{Network}
use Rattle.rules.specs.declared.system.System.{System}
use Rattle.board.specs.Lent.{Lent}
use Rattle.image.specs.Numbers.{number_bytes, numbers_bytes}
use Rattle.image.specs.Letters.{mail_numbers}
use Rattle.image.specs.Image.{version, plan_room, board_numbers, plan_bytes, plan_part, table_bytes, image, rig_of, is_image}
use Rattle.image_laws.specs.Parts.{system_on}
use Rattle.image_laws.proofs.Same.{same_bytes_true}
use Rattle.image_laws.proofs.Numbers.{length_number, held_piece}
use Rattle.image_laws.proofs.Pieces.{piece_is, piece_next, two}
use Rattle.image_laws.proofs.Sections.{Sizes, board_on, plan_on, image_is_all, head_is_all, length_plan, length_image, version_held, long_held, desks_held, zero_held, plan_part_held}
use Rattle.image_laws.proofs.Parts.{rig_sizes}

regroup : (v n u p c q rest : List ℕ) → (v ++ n) ++ (u ++ (p ++ (c ++ (q ++ rest)))) ≡ (v ++ (n ++ (u ++ (p ++ c)))) ++ (q ++ rest)
regroup v n u p c q rest = simp append_assoc

module _ (b : List ℕ) (r : System) (same : b ≡ image r) (s : Sizes r) where
  long : length b ≡ 34120
  long = ap length same ∙ length_image r s

  -- what stays
  first_part : take 8 b ≡ version ++ number_bytes 4 (length (plan_bytes r))
  first_part =
      let v = held_piece version b 0 (version_held b r same s) (omega (arith, long)) in
      let n = length_number 4 (length (plan_bytes r)) in
      let l = held_piece (number_bytes 4 (length (plan_bytes r))) b 4 (long_held b r same s) (omega (arith, long)) in
      piece_is b 0 8
      ∙ sym
      (piece_next b 0 4 4 version (number_bytes 4 (length (plan_bytes r)))
      (sym v ∙ piece_is b 0 4)
      (sym l ∙ ap (λ (m : ℕ). take m (drop 4 b)) n ∙ piece_is b 4 4))

  middle : take 2 (drop 12 b) ≡ r.processors ∷ 0 ∷ []
  middle = piece_is b 12 2 ∙ sym (two b 12 (omega (arith, long))) ∙ (λ i. desks_held b r same s i ∷ zero_held b r same s i ∷ [])

  plan_stays : take plan_room (drop 20 b) ≡ plan_part r
  plan_stays =
      ap (λ (n : ℕ). take n (drop 20 b)) (sym (length_plan r s))
      ∙ held_piece (plan_part r) b 20 (plan_part_held b r same s) (omega (arith, long, length_plan r s))

pub written_image : (b : List ℕ) (l : Lent) (k : Network) (chosen : List ℕ) → is_image b ≡ true
    → take 8 b
    ++ (number_bytes 4 k.used
    ++ (take 2 (drop 12 b)
    ++ (chosen
    ++ (take plan_room (drop 20 b)
    ++ (numbers_bytes 8 (board_numbers (system_on (rig_of b).processors (rig_of b).plan l k chosen))
    ++ (table_bytes (system_on (rig_of b).processors (rig_of b).plan l k chosen).tables
    ++ numbers_bytes 8 (mail_numbers k)))))))
    ≡ image (system_on (rig_of b).processors (rig_of b).plan l k chosen)
unfolding is_image plan_part
written_image b l k chosen h =
    let r = rig_of b in
    let after = system_on (rig_of b).processors (rig_of b).plan l k chosen in
    let same = same_bytes_true b (image r) h in
    let s = rig_sizes b in
    let p = first_part b r same s in
    let m = middle b r same s in
    let q = plan_stays b r same s in
    (λ i. p i ++ (number_bytes 4 k.used ++ (m i ++ (chosen ++ (q i ++ board_on after)))))
    ∙ regroup version (number_bytes 4 (length (plan_bytes r))) (number_bytes 4 k.used) ((rig_of b).processors ∷ 0 ∷ []) chosen (plan_part r) (board_on after)
    ∙ ap (λ (x : List ℕ). x ++ plan_on after) (sym (head_is_all after))
    ∙ sym (image_is_all after)

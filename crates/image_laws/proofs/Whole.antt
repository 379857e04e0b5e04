-- Bytes are an image where each of its parts is as it must be.
use mathlib.Core.Path.{◌≡◌, refl, sym, ◌∙◌, ap}
use mathlib.Core.Bool.{Bool, true, false, ◌&&◌}
use mathlib.Core.List.{List, [], ◌∷◌}
use mathlib.Core.Logic.{by_cases}
use Prim.Native.Nat.{ℕ, ◌+◌, ◌-◌, ◌<◌, ◌≤◌}
use native.Mathlib.Omega.{arith}
use native.Mathlib.Decide.{dec_lt}
use lib.Dec.{eqb}
use lib.ListN.{length, get_or, take, drop, replicate, length-take, length-drop, length-replicate, get_or-replicate, get_or-eq_default}
use lib.Seq.{get_or-take, get_or-drop}
use borrow.Author.Tests.{eqb-true, eq-eqb}
use Rattle.std.specs.Prelude.{Ok}
use Rattle.base.proofs.Tests.{and_left, and_right, and_both, below_at, below_all}
use Rattle.base.proofs.Tables.{all_same}
use Rattle.plan.specs.Files.{file_answer}
use Rattle.plan_laws.specs.Bytes.{Bytes}
use Rattle.plan_laws.proofs.Pieces.{four}
use Rattle.image.specs.Numbers.{number_bytes, numbers_bytes, number_at, numbers_at, same_bytes}
use Rattle.image.specs.Letters.{mail_numbers}
use Rattle.image.specs.Image.{rig_size, plan_room, version, board_numbers, plan_bytes, head_bytes, plan_part, table_bytes, image, plan_file, board_in, tables_in, network_in, chosen_in, rig_of, is_image}
use Rattle.image_laws.specs.Parts.{version_ok, zeros_behind, board_tidy, mail_tidy, image_parts}
use Rattle.image_laws.specs.Held.{top64, AllBelow}
use Rattle.image_laws.proofs.Same.{same_bytes_true, same_bytes_refl}
use Rattle.image_laws.proofs.Numbers.{number_piece, numbers_piece, bytes_piece, held_numbers}
use Rattle.image_laws.proofs.Pieces.{piece, piece_is, piece_next, piece_all, two, table_piece}
use Rattle.image_laws.proofs.Plans.{plan_back}
use Rattle.image_laws.proofs.BoardsHeld.{length_numbers_of}
use Rattle.image_laws.proofs.BoardsRead.{board_again, again_below, tidy_same, same_tidy, board_again_lem}
use Rattle.image_laws.proofs.Mails.{length_mail, again_fits, tidy_mail, mail_tidy_lem}
use Rattle.image_laws.proofs.Sections.{last, used_on, long_on, zeros, numbers_on, held_on, moves_on, mail_on, tables_on, board_on, plan_on, image_is_all, head_is_all, plan_is_all, tables_is_all, version_held, zero_held, zeros_held, board_bytes_held, mail_bytes_held}
use Rattle.image_laws.proofs.Parts.{board_long, board_small, rig_sizes}

-- two tests that say the same
same_test_lem : (x y : Bool) → (x ≡ true → y ≡ true) → (y ≡ true → x ≡ true) → x ≡ y
same_test_lem true y p q = sym (p refl)
same_test_lem false true p q = q refl
same_test_lem false false p q = refl

module _ (b : List ℕ) (long : length b ≡ rig_size) (bytes : Bytes b) (room : number_at 4 b 4 ≤ plan_room) (accepted : file_answer (plan_file b) ≡ Ok tt) where
  -- the plan file
  file_bytes : Bytes (plan_file b)
  file_bytes i =
      by_cases
      (dec_lt i (number_at 4 b 4))
      (λ l. rw (get_or-take (number_at 4 b 4) (drop 20 b) i 0 l, get_or-drop 20 b i 0) (bytes (20 + i)))
      (λ l. let z = get_or-eq_default (plan_file b) 0 {n = i} (omega (arith, length-take (number_at 4 b 4) (drop 20 b))) in omega arith)

  file_long : length (plan_file b) ≡ number_at 4 b 4
  file_long = omega (arith, length-take (number_at 4 b 4) (drop 20 b), length-drop 20 b)

  file_is : plan_bytes (rig_of b) ≡ plan_file b
  unfolding rig_of
  file_is = plan_back (plan_file b) file_bytes accepted

  plan_long : length (plan_bytes (rig_of b)) ≡ number_at 4 b 4
  plan_long = ap length file_is ∙ file_long

  -- the board and the mail, as numbers again
  board_numbers_lem : board_numbers (rig_of b) ≡ board_again (board_in b)
  unfolding rig_of
  board_numbers_lem = board_again_lem (board_in b) (rig_of b) refl refl refl

  network_is : (rig_of b).network ≡ network_in b
  unfolding rig_of
  network_is = refl

  -- each part is as it must be
  module _ (h : image_parts b ≡ true) where
    abbrev tests : Bool
    tests = board_tidy (board_in b) && mail_tidy b

    rest : zeros_behind (number_at 4 b 4) b && tests ≡ true
    unfolding image_parts
    rest = and_right (eqb (get_or b 13 0) 0) (zeros_behind (number_at 4 b 4) b && tests) (and_right (version_ok b) _ h)

    zero_there : get_or b 13 0 ≡ 0
    unfolding image_parts
    zero_there = eqb-true _ _ (and_left (eqb (get_or b 13 0) 0) (zeros_behind (number_at 4 b 4) b && tests) (and_right (version_ok b) _ h))

    version_ok_lem : version_ok b ≡ true
    unfolding image_parts
    version_ok_lem = and_left (version_ok b) _ h

    version_there : version ≡ piece b 0 4
    version_there =
        let v = version_ok_lem in
        let v₁ = and_right (eqb (get_or b 0 0) 82) _ v in
        let v₂ = and_right (eqb (get_or b 1 0) 73) _ v₁ in
        let a : get_or b 0 0 ≡ 82 = eqb-true _ _ (and_left (eqb (get_or b 0 0) 82) _ v) in
        let c : get_or b 1 0 ≡ 73 = eqb-true _ _ (and_left (eqb (get_or b 1 0) 73) _ v₁) in
        let d : get_or b 2 0 ≡ 71 = eqb-true _ _ (and_left (eqb (get_or b 2 0) 71) _ v₂) in
        let e : get_or b 3 0 ≡ 49 = eqb-true _ _ (and_right (eqb (get_or b 2 0) 71) _ v₂) in
        sym (sym (piece_is b 0 4) ∙ four b 0 0 (omega arith) ∙ rw (a, c, d, e) refl)

    head_there : head_bytes (rig_of b) ≡ piece b 0 20
    unfolding rig_of network_in chosen_in
    head_there =
        head_is_all (rig_of b)
        ∙ piece_next b 0 4 16 version (long_on (rig_of b)) version_there
        (piece_next b 4 4 12 (number_bytes 4 (length (plan_bytes (rig_of b)))) (used_on (rig_of b))
        (ap (number_bytes 4) plan_long ∙ number_piece 4 b 4 bytes (omega arith) ∙ piece_is b 4 4)
        (piece_next b 8 4 8 (number_bytes 4 (number_at 4 b 8)) (last (rig_of b)) (number_piece 4 b 8 bytes (omega arith) ∙ piece_is b 8 4)
        (piece_next b 12 2 6 (get_or b 12 0 ∷ 0 ∷ []) (numbers_at 1 6 b 14)
        (ap (λ (z : ℕ). get_or b 12 0 ∷ z ∷ []) (sym zero_there) ∙ two b 12 (omega arith))
        (bytes_piece 6 b 14 (omega arith) ∙ piece_is b 14 6))))

    zeros_there : (n : ℕ) → n ≤ 16644 → zeros_behind n b ≡ true → replicate (16644 - n) 0 ≡ piece b (20 + n) (16644 - n)
    unfolding zeros_behind
    zeros_there n l z =
        let same : (k : ℕ) → k < 16644 - n → get_or b (20 + n + k) 0 ≡ 0 =
        λ k q. eqb-true _ _ (below_at (λ k. eqb (get_or b (20 + n + k) 0) 0) (16644 - n) k q z) in
        all_same (16644 - n) (λ k. get_or b (20 + n + k) 0) 0 same
        ∙ table_piece b (20 + n) (16644 - n) (λ k. get_or b (20 + n + k) 0) (omega arith) (λ k q. refl)

    plan_there : plan_part (rig_of b) ≡ piece b 20 16644
    plan_there =
        let n = number_at 4 b 4 in
        let z = zeros_there n room (and_left (zeros_behind n b) tests rest) in
        let e : n + (16644 - n) ≡ 16644 = omega arith in
        plan_is_all (rig_of b)
        ∙ piece_next b 20 n (16644 - n) (plan_bytes (rig_of b)) (zeros (rig_of b))
        (file_is ∙ piece_is b 20 n)
        (ap (λ (m : ℕ). replicate (16644 - m) 0) plan_long ∙ z)
        ∙ ap (piece b 20) e

    board_bytes : numbers_bytes 8 (board_in b) ≡ take 8752 (drop 16664 b)
    unfolding board_in
    board_bytes = numbers_piece 8 1094 b 16664 bytes (omega arith)

    board_there : numbers_bytes 8 (board_numbers (rig_of b)) ≡ piece b 16664 8752
    board_there =
        let t = and_left (board_tidy (board_in b)) (mail_tidy b) (and_right (zeros_behind (number_at 4 b 4) b) tests rest) in
        ap (numbers_bytes 8) (board_numbers_lem ∙ tidy_same (board_in b) t (board_long b) (board_small b bytes))
        ∙ board_bytes
        ∙ piece_is b 16664 8752

    tables_there : table_bytes (rig_of b).tables ≡ piece b 25416 4608
    unfolding rig_of tables_in
    tables_there =
        tables_is_all (rig_of b)
        ∙ piece_next b 25416 768 3840 (numbers_at 1 768 b 25416) (moves_on (rig_of b)) (bytes_piece 768 b 25416 (omega arith) ∙ piece_is b 25416 768)
        (piece_next b 26184 1536 2304 (numbers_bytes 2 (numbers_at 2 768 b 26184)) (held_on (rig_of b)) (numbers_piece 2 768 b 26184 bytes (omega arith) ∙ piece_is b 26184 1536)
        (piece_next b 27720 768 1536 (numbers_at 1 768 b 27720) (numbers_on (rig_of b)) (bytes_piece 768 b 27720 (omega arith) ∙ piece_is b 27720 768)
        (piece_next b 28488 768 768 (numbers_at 1 768 b 28488) (numbers_at 1 768 b 29256) (bytes_piece 768 b 28488 (omega arith) ∙ piece_is b 28488 768)
        (bytes_piece 768 b 29256 (omega arith) ∙ piece_is b 29256 768))))

    mail_there : mail_on (rig_of b) ≡ piece b 30024 4096
    mail_there =
        let t = and_right (board_tidy (board_in b)) (mail_tidy b) (and_right (zeros_behind (number_at 4 b 4) b) tests rest) in
        ap (numbers_bytes 8) (ap mail_numbers network_is ∙ tidy_mail b t)
        ∙ numbers_piece 8 512 b 30024 bytes (omega arith)
        ∙ piece_is b 30024 4096

    parts_image : image (rig_of b) ≡ b
    parts_image =
        image_is_all (rig_of b)
        ∙ piece_next b 0 20 34100 (head_bytes (rig_of b)) (plan_on (rig_of b)) head_there
        (piece_next b 20 16644 17456 (plan_part (rig_of b)) (board_on (rig_of b)) plan_there
        (piece_next b 16664 8752 8704 (numbers_bytes 8 (board_numbers (rig_of b))) (tables_on (rig_of b)) board_there
        (piece_next b 25416 4608 4096 (table_bytes (rig_of b).tables) (mail_on (rig_of b)) tables_there mail_there)))
        ∙ piece_all b 34120 long

  -- bytes that are an image
  module _ (same : b ≡ image (rig_of b)) where
    version_is : version_ok b ≡ true
    version_is =
        let v = version_held b (rig_of b) same (rig_sizes b) in
        and_both (eqb (get_or b 0 0) 82) _ (eq-eqb _ _ (v 0 (omega arith)))
        (and_both (eqb (get_or b 1 0) 73) _ (eq-eqb _ _ (v 1 (omega arith)))
        (and_both (eqb (get_or b 2 0) 71) _ (eq-eqb _ _ (v 2 (omega arith))) (eq-eqb _ _ (v 3 (omega arith)))))

    zeros_are : zeros_behind (number_at 4 b 4) b ≡ true
    unfolding zeros_behind
    zeros_are =
        let n = number_at 4 b 4 in
        let z = zeros_held b (rig_of b) same (rig_sizes b) in
        below_all (λ k. eqb (get_or b (20 + n + k) 0) 0) (16644 - n)
        (λ k l.
        let q : k < plan_room - length (plan_bytes (rig_of b)) = rw plan_long l in
        eq-eqb _ _
        (ap (λ (m : ℕ). get_or b (20 + m + k) 0) (sym plan_long)
        ∙ z k (rw (length-replicate {A = ℕ} (plan_room - length (plan_bytes (rig_of b))) 0) q)
        ∙ get_or-replicate (plan_room - length (plan_bytes (rig_of b))) k 0 0 q))

    board_tidy_lem : board_tidy (board_in b) ≡ true
    board_tidy_lem =
        let s = length_numbers_of (rig_of b) (rig_sizes b).ready in
        let small : AllBelow top64 (board_numbers (rig_of b)) = rw board_numbers_lem (again_below (board_in b) (board_small b bytes)) in
        let read = held_numbers 8 (board_numbers (rig_of b)) b 16664 (board_bytes_held b (rig_of b) same (rig_sizes b)) (λ i l. small i) in
        same_tidy (board_in b)
        (sym board_numbers_lem ∙ sym read ∙ ap (λ (n : ℕ). numbers_at 8 n b 16664) s ∙ (unfold board_in in refl))

    mail_is_tidy : mail_tidy b ≡ true
    mail_is_tidy =
        let h = mail_bytes_held b (rig_of b) same (rig_sizes b) in
        let read = held_numbers 8 (mail_numbers (network_in b)) b 30024 (rw network_is at h) (λ i l. again_fits b i) in
        mail_tidy_lem b (sym read ∙ ap (λ (n : ℕ). numbers_at 8 n b 30024) (length_mail (network_in b)))

    image_to_parts : image_parts b ≡ true
    unfolding image_parts
    image_to_parts =
        and_both (version_ok b) _ version_is
        (and_both (eqb (get_or b 13 0) 0) _ (eq-eqb _ _ (zero_held b (rig_of b) same (rig_sizes b)))
        (and_both (zeros_behind (number_at 4 b 4) b) _ zeros_are
        (and_both (board_tidy (board_in b)) (mail_tidy b) board_tidy_lem mail_is_tidy)))

  pub image_parts_lem : is_image b ≡ image_parts b
  unfolding is_image
  image_parts_lem =
      same_test_lem (same_bytes b (image (rig_of b))) (image_parts b)
      (λ h. image_to_parts (same_bytes_true b (image (rig_of b)) h))
      (λ h. ap (same_bytes b) (parts_image h) ∙ same_bytes_refl b)

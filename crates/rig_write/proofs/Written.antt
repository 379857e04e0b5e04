-- The bytes after all sections were put are those that the definitions say.
use mathlib.Core.Path.{◌≡◌, refl, sym, ap, ◌∙◌}
use mathlib.Core.List.{List, [], ◌∷◌, ◌++◌, append_assoc, append-nil}
use Prim.Native.Nat.{ℕ, zero, suc, ◌+◌, ◌*◌, ◌-◌, ◌/◌, ◌%◌, ◌<◌, ◌≤◌}
use native.Mathlib.Omega.{arith}
use lib.ListN.{length, take, drop, length-append, replicate, length-replicate}
use lib.Seq.{take-take, take_at, drop_at, drop-length, length-take-le}
use Rattle.rules.specs.declared.message.Network.{Network}
use Rattle.rules.specs.declared.system.Tables.{Tables}
use Rattle.board.specs.Lent.{Lent, store_of}
use Rattle.plan_write.specs.output.Output.{overlay}
use Rattle.image.specs.Numbers.{number_bytes, numbers_bytes}
use Rattle.image.specs.Image.{table_bytes, rig_of, version}
use Rattle.image_laws.proofs.Numbers.{length_number, length_numbers}
use Rattle.rig_write.specs.Sections.{tidy_numbers}
use Rattle.rig_write.specs.Head.{head_written}
use Rattle.rig_write.specs.Written.{lent_written, parts_written}
use Rattle.rig_write.specs.Mail.{mail_bytes}
use Rattle.rig_write.proofs.Puts.{put_more, put_length}
use Rattle.rig_write.proofs.MailNumbers.{mail_none}
use Rattle.rig_write.proofs.Boards.{board_numbers_lem, length_tidy}
use Rattle.rig_write.proofs.Whole.{parts_put, head_put, grouped_head}

-- how long the tables are
pub length_tables : (x : Tables) → length x.hintprocessors ≡ 768 → length x.hintmoves ≡ 768 → length x.heldprocessors ≡ 768 → length x.heldnumbers ≡ 768
    → length x.notes ≡ 768 → length (table_bytes x) ≡ 4608
unfolding table_bytes
length_tables x a b c d e = simp (length-append, length_numbers) (omega arith)

pub length_board : (x : List ℕ) → length (numbers_bytes 8 (tidy_numbers x)) ≡ 8752
length_board x = length_numbers 8 (tidy_numbers x) ∙ ap (λ (n : ℕ). 8 * n) (length_tidy x)

-- a piece of the first w elements, and one that two lists share
piece_of_front : (n i w : ℕ) (x : List ℕ) → i + n ≤ w → take n (drop i (take w x)) ≡ take n (drop i x)
piece_of_front n zero w x h = take-take n w x (omega arith)
piece_of_front n (suc i) zero x h = absurd (omega arith)
piece_of_front n (suc i) (suc w) [] h = refl
piece_of_front n (suc i) (suc w) (y ∷ x) h = piece_of_front n i w x (omega arith)

same_piece : (x y : List ℕ) (w i n : ℕ) → take w x ≡ take w y → i + n ≤ w → take n (drop i x) ≡ take n (drop i y)
same_piece x y w i n e h =
    sym (piece_of_front n i w x h) ∙ ap (λ (l : List ℕ). take n (drop i l)) e ∙ piece_of_front n i w y h

module _ (b : List ℕ) (h : length b ≡ 34120) where
  pub lent_written_lem : (l : Lent) (used : ℕ) (chosen o1 o2 o3 o4 : List ℕ) → length chosen ≡ 6 → length (table_bytes (store_of l).tables) ≡ 4608
      → o1 ≡ overlay b 8 (number_bytes 4 used) → o2 ≡ overlay o1 14 chosen → o3 ≡ overlay o2 16664 (numbers_bytes 8 (tidy_numbers l.board))
      → o4 ≡ overlay o3 25416 (table_bytes (store_of l).tables)
      → o4 ≡ lent_written b l used chosen
  unfolding lent_written
  lent_written_lem l used chosen o1 o2 o3 o4 lc lt e1 e2 e3 e4 =
      let x = number_bytes 4 used in
      let lx = length_number 4 used in
      let s1 = numbers_bytes 8 (tidy_numbers l.board) in
      let s2 = table_bytes (store_of l).tables in
      let lb = length_board l.board in
      let long1 : length o1 ≡ 34120 = put_length b o1 8 x (omega arith) e1 ∙ h in
      let long2 : length o2 ≡ 34120 = put_length o1 o2 14 chosen (omega arith) e2 ∙ long1 in
      let e : o4 ≡ overlay o2 16664 (s1 ++ s2) = put_more o2 o3 o4 16664 25416 s1 s2 (omega arith) e3 (omega arith) e4 in
      let long3 : length (s1 ++ s2) ≡ 13360 = length-append s1 s2 ∙ omega arith in
      parts_put b h x chosen (s1 ++ s2) o1 o2 o4 lx lc long3 e1 e2 e
      ∙ ap (λ (r : List ℕ). take 8 b ++ (x ++ (take 2 (drop 12 b) ++ (chosen ++ (take 16644 (drop 20 b) ++ r))))) (append_assoc s1 s2 (drop 30024 b))

  -- the other parts, written into bytes that differ in the mail alone, and that end with the bytes of a mail: all parts
  pub lent_parts : (b' : List ℕ) (l : Lent) (k : Network) (chosen : List ℕ) → take 30024 b' ≡ take 30024 b → drop 30024 b' ≡ mail_bytes k
      → lent_written b' l k.used chosen ≡ parts_written b l k chosen
  unfolding lent_written parts_written
  lent_parts b' l k chosen front mail =
      let first : take 8 b' ≡ take 8 b = sym (take-take 8 30024 b' (omega arith)) ∙ ap (take 8) front ∙ take-take 8 30024 b (omega arith) in
      rw (first, same_piece b' b 30024 12 2 front (omega arith), same_piece b' b 30024 20 16644 front (omega arith), mail, board_numbers_lem (rig_of b).processors (rig_of b).plan l k chosen) refl

  -- the same where zeros were put for a mail without letters
  pub no_letters : (b' : List ℕ) (l : Lent) (k : Network) (chosen : List ℕ) → k.used ≡ 0 → b' ≡ overlay b 30024 (replicate 4096 0)
      → lent_written b' l 0 chosen ≡ parts_written b l k chosen
  unfolding overlay
  no_letters b' l k chosen e q =
      let zeros : List ℕ = replicate 4096 0 in
      let n : length (take 30024 b) ≡ 30024 = length-take-le 30024 b (omega arith) in
      let end : 30024 + length zeros ≡ length b = omega (arith, length-replicate {A = ℕ} 4096 0, h) in
      let none : drop (30024 + length zeros) b ≡ [] = ap (λ (i : ℕ). drop i b) end ∙ drop-length b in
      let all : b' ≡ take 30024 b ++ zeros =
      q ∙ ap (λ (z : List ℕ). take 30024 b ++ (zeros ++ z)) none ∙ ap (λ (z : List ℕ). take 30024 b ++ z) (append-nil zeros) in
      ap (λ (u : ℕ). lent_written b' l u chosen) (sym e)
      ∙ lent_parts b' l k chosen (ap (take 30024) all ∙ take_at (take 30024 b) zeros 30024 n) (ap (drop 30024) all ∙ drop_at (take 30024 b) zeros 30024 n ∙ sym (mail_none k e))

  -- the version's number, and that of desks with a zero byte behind it
  version_bytes : number_bytes 4 826755410 ≡ version
  unfolding number_bytes
  version_bytes = refl

  desk_bytes : (n : ℕ) → n < 256 → number_bytes 2 n ≡ n ∷ 0 ∷ []
  unfolding number_bytes
  desk_bytes n l =
      let p : n % 256 ≡ n = omega arith in
      let q : n / 256 % 256 ≡ 0 = omega arith in
      rw (p, q) refl

  pub head_written_lem : (n : ℕ) (plan o1 o2 o3 o4 o5 : List ℕ) → n < 256 → length plan ≤ 16644
      → o1 ≡ overlay b 0 (number_bytes 4 826755410) → o2 ≡ overlay o1 4 (number_bytes 4 (length plan)) → o3 ≡ overlay o2 12 (number_bytes 2 n)
      → o4 ≡ overlay o3 20 plan → o5 ≡ overlay o4 (20 + length plan) (replicate (16644 - length plan) 0)
      → o5 ≡ head_written b n plan
  unfolding head_written
  head_written_lem n plan o1 o2 o3 o4 o5 few room e1 e2 e3 e4 e5 =
      let x1 = number_bytes 4 826755410 in
      let x2 = number_bytes 4 (length plan) in
      let y = number_bytes 2 n in
      let zeros : List ℕ = replicate (16644 - length plan) 0 in
      let l1 = length_number 4 826755410 in
      let l2 = length_number 4 (length plan) in
      let ly = length_number 2 n in
      let lz : length zeros ≡ 16644 - length plan = length-replicate (16644 - length plan) 0 in
      let lx : length (x1 ++ x2) ≡ 8 = length-append x1 x2 ∙ omega arith in
      let lp : length (plan ++ zeros) ≡ 16644 = length-append plan zeros ∙ omega arith in
      let s2 : o2 ≡ overlay b 0 (x1 ++ x2) = put_more b o1 o2 0 4 x1 x2 (omega arith) e1 (omega arith) e2 in
      let long2 : length o2 ≡ 34120 = put_length b o2 0 (x1 ++ x2) (omega arith) s2 ∙ h in
      let long3 : length o3 ≡ 34120 = put_length o2 o3 12 y (omega arith) e3 ∙ long2 in
      let s5 : o5 ≡ overlay o3 20 (plan ++ zeros) = put_more o3 o4 o5 20 (20 + length plan) plan zeros (omega arith) e4 refl e5 in
      head_put b h (x1 ++ x2) y (plan ++ zeros) o2 o3 o5 lx ly lp s2 e3 s5
      ∙ grouped_head x1 x2 (take 4 (drop 8 b)) y (take 6 (drop 14 b)) plan zeros (drop 16664 b)
      ∙ rw (version_bytes, desk_bytes n few) refl

-- The bytes that are written are images: parts written into an image, and a head and parts written into any bytes.
use mathlib.Core.Path.{◌≡◌, refl, sym, ap, ◌∙◌}
use mathlib.Core.Bool.{true}
use mathlib.Core.List.{List, [], ◌∷◌, ◌++◌, append_assoc}
use Prim.Native.Nat.{ℕ, ◌-◌, ◌≤◌}
use native.Mathlib.Omega.{arith}
use lib.ListN.{length, take, drop, length-append, replicate, length-replicate}
use Rattle.plan.specs.declared.Plan.{Plan}
use Rattle.plan.specs.Programs.{programs}
use Rattle.plan.specs.Layout.{layout}
use Rattle.rules.specs.declared.message.Network.{Network}
use Rattle.board.specs.Lent.{Lent, store_of}
use Rattle.image.specs.Numbers.{number_bytes, numbers_bytes}
use Rattle.image.specs.Letters.{mail_numbers}
use Rattle.image.specs.Image.{rig_size, plan_room, version, board_numbers, head_bytes, plan_part, table_bytes, image, rig_of, is_image}
use Rattle.image_laws.specs.Parts.{system_on}
use Rattle.image_laws.proofs.Numbers.{length_number}
use Rattle.image_laws.proofs.Written as laws
use Rattle.rig_write.specs.Head.{head_written}
use Rattle.rig_write.specs.Written.{rig_with, parts_written}
use Rattle.rig_write.proofs.Boards.{board_numbers_lem}
use Rattle.rig_write.proofs.Whole.{piece_long, kept_first, kept_desks, kept_plan, grouped_image}

-- parts written into an image make the image of the rig with these parts
pub written_image : (b : List ℕ) (l : Lent) (k : Network) (chosen : List ℕ) → is_image b ≡ true → parts_written b l k chosen ≡ image (rig_with b l k chosen)
unfolding parts_written
written_image = laws.written_image

-- parts written into bytes that have the version, the desks and the plan file of a rig
kept_image : (b : List ℕ) (n : ℕ) (p : Plan) (l : Lent) (k : Network) (chosen : List ℕ)
    → take 8 b ≡ version ++ number_bytes 4 (length (layout (programs p))) → take 2 (drop 12 b) ≡ n ∷ 0 ∷ []
    → take plan_room (drop 20 b) ≡ plan_part (system_on n p l k chosen) → parts_written b l k chosen ≡ image (system_on n p l k chosen)
unfolding parts_written image head_bytes
kept_image b n p l k chosen first desks file =
    let r = system_on n p l k chosen in
    let u = number_bytes 4 k.used in
    let last = table_bytes (store_of l).tables ++ numbers_bytes 8 (mail_numbers k) in
    let e : board_numbers (rig_with b l k chosen) ≡ board_numbers r =
    board_numbers_lem (rig_of b).processors (rig_of b).plan l k chosen ∙ sym (board_numbers_lem n p l k chosen) in
    (λ i. first i ++ (u ++ (desks i ++ (chosen ++ (file i ++ (numbers_bytes 8 (e i) ++ last))))))
    ∙ grouped_image version (number_bytes 4 (length (layout (programs p)))) u (n ∷ 0 ∷ []) chosen (plan_part r) (numbers_bytes 8 (board_numbers r) ++ last)

-- parts written behind a head make the image of the rig of that plan, whatever the bytes were
pub started_image : (b : List ℕ) (n : ℕ) (p : Plan) (l : Lent) (k : Network) (chosen : List ℕ) → length b ≡ rig_size → length (layout (programs p)) ≤ plan_room
    → parts_written (head_written b n (layout (programs p))) l k chosen ≡ image (system_on n p l k chosen)
unfolding head_written plan_part
started_image b n p l k chosen h room =
    let plan = layout (programs p) in
    let v : List ℕ = version in
    let x = number_bytes 4 (length plan) in
    let q = take 4 (drop 8 b) in
    let d : List ℕ = n ∷ 0 ∷ [] in
    let c = take 6 (drop 14 b) in
    let z : List ℕ = replicate (plan_room - length plan) 0 in
    let rest = drop 16664 b in
    let lx = length_number 4 (length plan) in
    let lq = piece_long b 8 4 (omega arith) in
    let lc = piece_long b 14 6 (omega arith) in
    let lz : length z ≡ plan_room - length plan = length-replicate (plan_room - length plan) 0 in
    let lp : length (plan ++ z) ≡ 16644 = length-append plan z ∙ omega arith in
    let same : head_written b n plan ≡ v ++ (x ++ (q ++ (d ++ (c ++ ((plan ++ z) ++ rest))))) =
    ap (λ (y : List ℕ). v ++ (x ++ (q ++ (d ++ (c ++ y))))) (sym (append_assoc plan z rest)) in
    kept_image (head_written b n plan) n p l k chosen
    (ap (take 8) same ∙ kept_first v x q d c (plan ++ z) rest refl lx lq refl lc lp)
    (ap (λ (y : List ℕ). take 2 (drop 12 y)) same ∙ kept_desks v x q d c (plan ++ z) rest refl lx lq refl lc lp)
    (ap (λ (y : List ℕ). take plan_room (drop 20 y)) same ∙ kept_plan v x q d c (plan ++ z) rest refl lx lq refl lc lp)

-- Each entry of an image is a byte.
use mathlib.Core.List.{List, [], ◌∷◌, ◌++◌}
use Prim.Native.Nat.{ℕ, zero, suc, ◌-◌, ◌/◌, ◌%◌, ◌<◌}
use native.Mathlib.Omega.{arith}
use lib.ListN.{length}
use Rattle.plan.specs.Programs.{programs}
use Rattle.plan_laws.specs.Bytes.{Bytes}
use Rattle.plan_laws.proofs.LayoutBytes.{layout_bytes}
use Rattle.rules.specs.declared.system.System.{System}
use Rattle.image.specs.Numbers.{number_bytes, numbers_bytes}
use Rattle.image.specs.Letters.{mail_numbers}
use Rattle.image.specs.Image.{version, plan_room, board_numbers, plan_bytes, head_bytes, plan_part, table_bytes, image}
use Rattle.image_laws.specs.Held.{Imaged}
use Rattle.image_laws.proofs.Pieces.{none_below, cons_below, append_below, replicate_below}
use Rattle.image_laws.proofs.Sections.{last, used_on, long_on, zeros, numbers_on, held_on, moves_on, mail_on, tables_on, board_on, plan_on, image_is_all, head_is_all, plan_is_all, tables_is_all}

pub cons_bytes : (x : ℕ) (xs : List ℕ) → x < 256 → Bytes xs → Bytes (x ∷ xs)
cons_bytes = cons_below 256 (omega arith)

pub append_bytes : (xs ys : List ℕ) → Bytes xs → Bytes ys → Bytes (xs ++ ys)
append_bytes = append_below 256 (omega arith)

pub number_bytes_lem : (w v : ℕ) → Bytes (number_bytes w v)
unfolding number_bytes
number_bytes_lem zero v = none_below 256 (omega arith)
number_bytes_lem (suc w) v = cons_bytes (v % 256) (number_bytes w (v / 256)) (omega arith) (number_bytes_lem w (v / 256))

pub numbers_bytes_lem : (w : ℕ) (vs : List ℕ) → Bytes (numbers_bytes w vs)
unfolding numbers_bytes
numbers_bytes_lem w [] = none_below 256 (omega arith)
numbers_bytes_lem w (v ∷ vs) = append_bytes (number_bytes w v) (numbers_bytes w vs) (number_bytes_lem w v) (numbers_bytes_lem w vs)

version_bytes : Bytes version
version_bytes =
    cons_bytes 82 (73 ∷ 71 ∷ 49 ∷ []) (omega arith)
    (cons_bytes 73 (71 ∷ 49 ∷ []) (omega arith) (cons_bytes 71 (49 ∷ []) (omega arith) (cons_bytes 49 [] (omega arith) (none_below 256 (omega arith)))))

module _ (r : System) (i : Imaged r) where
  head_bytes_lem : Bytes (head_bytes r)
  head_bytes_lem =
      rw (head_is_all r)
      (append_bytes version (long_on r) version_bytes
      (append_bytes (number_bytes 4 (length (plan_bytes r))) (used_on r) (number_bytes_lem 4 (length (plan_bytes r)))
      (append_bytes (number_bytes 4 r.network.used) (last r) (number_bytes_lem 4 r.network.used)
      (cons_bytes r.processors (0 ∷ r.chosen) i.processors (cons_bytes 0 r.chosen (omega arith) i.chosen.small)))))

  plan_bytes_lem : Bytes (plan_part r)
  plan_bytes_lem =
      rw (plan_is_all r)
      (append_bytes (plan_bytes r) (zeros r) (layout_bytes (programs r.plan) i.accepted) (replicate_below 256 (omega arith) (plan_room - length (plan_bytes r))))

  table_bytes_lem : Bytes (table_bytes r.tables)
  table_bytes_lem =
      rw (tables_is_all r)
      (append_bytes r.tables.hintprocessors (moves_on r) i.tables.hintprocessors.small
      (append_bytes (numbers_bytes 2 r.tables.hintmoves) (held_on r) (numbers_bytes_lem 2 r.tables.hintmoves)
      (append_bytes r.tables.heldprocessors (numbers_on r) i.tables.heldprocessors.small
      (append_bytes r.tables.heldnumbers r.tables.notes i.tables.heldnumbers.small i.tables.notes.small))))

  pub image_bytes : Bytes (image r)
  image_bytes =
      rw (image_is_all r)
      (append_bytes (head_bytes r) (plan_on r) head_bytes_lem
      (append_bytes (plan_part r) (board_on r) plan_bytes_lem
      (append_bytes (numbers_bytes 8 (board_numbers r)) (tables_on r) (numbers_bytes_lem 8 (board_numbers r))
      (append_bytes (table_bytes r.tables) (mail_on r) table_bytes_lem (numbers_bytes_lem 8 (mail_numbers r.network))))))

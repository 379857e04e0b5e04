-- `put_tables`: five tables one behind the other.
use native.Mathlib.Omega.{arith}
use Rattle.image_laws.proofs.Numbers.{length_numbers}
use Rattle.rig_write.specs.Written.{tables}
use Rattle.rig_write.proofs.Puts.{five_puts}
use Rattle.rig_write.proofs.Written.{length_tables}
use Rattle.image.specs.Numbers.{numbers_bytes}
use Rattle.image.specs.Image.{table_bytes}
use mathlib.Core.Path.{◌≡◌}
use lib.ListN.{length}
use Rattle.rig_write.proofs.parts.put_tables.Goals as goal

pub returns : goal.returns
unfolding table_bytes
returns c =
    let a = c.args in
    let l1 : length a.hintprocessors.now ≡ 768 = omega arith in
    let l2 : length a.hintmoves.now ≡ 768 = omega arith in
    let l3 : length a.heldprocessors.now ≡ 768 = omega arith in
    let l4 : length a.heldnumbers.now ≡ 768 = omega arith in
    let l5 : length a.notes.now ≡ 768 = omega arith in
    let long = length_numbers 2 a.hintmoves.now in
    record {
      bytes =
          five_puts a.rig.now _ _ _ _ _ a.hintprocessors.now (numbers_bytes 2 a.hintmoves.now) a.heldprocessors.now a.heldnumbers.now a.notes.now
          25416 26184 27720 28488 29256 (omega (arith, c.requires)) (omega (arith, l1)) (omega (arith, l2, long)) (omega (arith, l3)) (omega (arith, l4))
          c.put_bytes.ensures c.put_moves.ensures c.put_bytes-2.ensures c.put_bytes-3.ensures c.put_bytes-4.ensures;
      long = length_tables (tables a.hintprocessors.now a.hintmoves.now a.heldprocessors.now a.heldnumbers.now a.notes.now) l1 l2 l3 l4 l5;
    }

-- `write_lent`: the number of letters, the last choices, the board and the tables, each put at its place.
use native.Mathlib.Omega.{arith}
use mathlib.Core.Path.{◌≡◌}
use lib.ListN.{length}
use Rattle.board.specs.Lent.{lent}
use Rattle.rig_write.proofs.Written.{lent_written_lem}
use Rattle.rig_write.proofs.parts.write_lent.Goals as goal

pub returns : goal.returns
returns c =
    let a = c.args in
    let few : length a.chosen ≡ 6 = omega arith in
    let l = lent a.hintprocessors.now a.hintmoves.now a.heldprocessors.now a.heldnumbers.now a.notes.now a.board.now in
    lent_written_lem a.rig.now c.requires l a.used a.chosen _ _ _ _ few c.put_tables.ensures.long
    c.put4.ensures c.put_bytes.ensures c.put_board.ensures c.put_tables.ensures.bytes

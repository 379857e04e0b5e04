-- `put_board`: five sections one behind the other.
use native.Mathlib.Omega.{arith}
use Rattle.rig_write.proofs.Boards.{board_put}
use Rattle.rig_write.proofs.sections.put_board.Goals as goal

pub returns : goal.returns
returns c =
    board_put c.args.board.now c.args.rig.now _ _ _ _ _ (omega (arith, c.requires)) c.put_channels.ensures c.put_tasks.ensures c.put_words.ensures
    c.put_parents.ensures c.put_sets.ensures

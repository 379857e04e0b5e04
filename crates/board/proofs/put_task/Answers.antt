-- `put_task`: task t becomes x, where there is such a task.
use mathlib.Core.Path.{◌≡◌, refl}
use native.Mathlib.Omega.{arith}
use lib.ListN.{length-set}
use Rattle.board.proofs.Stores.{NarrowTask}
use Rattle.board.proofs.Readies.{task_put}
use Rattle.rules.specs.Systems.{task_stored}
use Rattle.board.proofs.put_task.Goals as goal

pub put_ready-requires : goal.put_ready-requires
put_ready-requires c = (omega arith, omega arith, simp (length-set, c.requires.1))

pub returns-then-t-ne0 : goal.returns-then-t-ne0
returns-then-t-ne0 c =
    let x = c.args.x in
    let g = c.well_formed.1.1 in
    let small : NarrowTask x = (omega (arith, g), omega (arith, g), omega (arith, g), omega (arith, g), omega (arith, g), (omega (arith, g), omega (arith, g), omega (arith, g), omega (arith, g))) in
    task_put c.args.board.now c.args.t x refl (omega arith) (omega arith) c.requires.1 c.task_word-new.ensures c.word_number.ensures small c.put_ready.new.board c.put_ready.ensures

pub returns-else-t-ne0 : goal.returns-else-t-ne0
unfolding task_stored
returns-else-t-ne0 c =
    let e : c.args.t.0 ≡ 0 = omega arith in
    (c.requires.1, rw e refl, refl, refl)

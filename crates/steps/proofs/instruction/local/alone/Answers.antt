-- `alone`: task t becomes y, and nothing else changes.
use mathlib.Core.Path.{refl}
use borrow.Author.Rules.{rules}
use Rattle.rules.specs.declared.rule.Posting.TheVariants.{Nothing as NoPosting}
use Rattle.rules.specs.Numbers.{task_id}
use Rattle.rules.specs.Tasks.{no_task}
use Rattle.rules.specs.Systems.{task_stored}
use Rattle.rig_parts.specs.declared.sweep.Sweep.TheVariants.{Nothing}
use Rattle.board.specs.Lent.{lent}
use Rattle.steps.proofs.instruction.Locals.{two_acted}
use Rattle.steps.proofs.instruction.local.alone.Goals as goal

pub returns : goal.returns
unfolding task_stored
returns c ss rs hp hm op on notes d =
    let a = c.args in
    let put = c.put_task in
    two_acted ss rs a.t (task_id 0) d a.y no_task NoPosting Nothing (lent hp hm op on notes a.board.now) (lent hp hm op on notes put.new.board)
    put.ensures.0 c.posted.ensures put.ensures.1 (rw put.ensures.2 refl) put.ensures.3

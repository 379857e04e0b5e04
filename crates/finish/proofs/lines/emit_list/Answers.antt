use mathlib.Core.Path.{◌≡◌, ◌∙◌}
use native.Mathlib.Omega.{arith}
use native.Mathlib.Numerals.{add-one}
use Rattle.base.specs.Range.{fold}
use Rattle.finish.specs.Answers.{stuck_lines_in}
use Rattle.run.proofs.all_steps.Progress.{next_none, next_then}
use Rattle.finish.proofs.lines.emit_list.Goals as goal

pub loop-k-init : goal.loop-k-init
unfolding stuck_lines_in fold
loop-k-init c = next_none _ _

pub emit_task-requires : goal.emit_task-requires
emit_task-requires c =
    let lines = c.loop-k.invariant in
    (omega arith, c.requires.1 _ (omega arith) (omega arith), lines.long ∙ c.requires.2, lines.room c.requires.3)

pub loop-k-preserved : goal.loop-k-preserved
unfolding stuck_lines_in fold
loop-k-preserved c =
    rw add-one (next_then c.loop-k.invariant (rw add-one at c.emit_task.ensures))

pub shape_of-out : goal.shape_of-out
shape_of-out c = c.loop-k.invariant.kept

pub returns : goal.returns
returns c =
    let e : c.loop-k.k ≡ c.args.count = omega arith in
    rw e at c.loop-k.invariant

use mathlib.Core.Path.{◌≡◌, ◌∙◌}
use Prim.Native.Nat.{◌-◌}
use native.Mathlib.Omega.{arith}
use native.Mathlib.Numerals.{add-one}
use Rattle.base.specs.Range.{fold}
use Rattle.run.specs.file.Writes.{mark_lines}
use Rattle.run.proofs.all_steps.Progress.{next_none, next_then}
use Rattle.run.proofs.file.last.emit_marks.Goals as goal

pub loop-t-init : goal.loop-t-init
unfolding mark_lines fold
loop-t-init c = next_none _ _

pub emit_mark-requires : goal.emit_mark-requires
emit_mark-requires c =
    let lines = c.loop-t.invariant in
    (omega arith, lines.long ∙ c.requires.1, lines.room c.requires.2)

pub loop-t-preserved : goal.loop-t-preserved
unfolding mark_lines fold
loop-t-preserved c =
    rw add-one (next_then c.loop-t.invariant (rw add-one at c.emit_mark.ensures))

pub shape_of-out : goal.shape_of-out
shape_of-out c = c.loop-t.invariant.kept

pub returns : goal.returns
returns c =
    let e : c.loop-t.t ≡ c.args.tasks = omega arith in
    rw e at c.loop-t.invariant

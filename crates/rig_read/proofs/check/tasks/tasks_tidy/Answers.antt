use mathlib.Core.Path.{◌≡◌, ◌∙◌}
use native.Mathlib.Omega.{arith}
use Rattle.rig_read.specs.Passing.{tasks_tidy}
use Rattle.rig_read.proofs.Zeros.{tests_none, tests_more}
use Rattle.rig_read.proofs.Tidy.{tidy_on}
use Rattle.rig_read.proofs.check.tasks.tasks_tidy.Invariants.{tidy_at}
use Rattle.rig_read.proofs.check.tasks.tasks_tidy.Goals as goal

pub loop-k-init : goal.loop-k-init
loop-k-init c = tests_none (tidy_at c.args.board.now)

pub loop-k-preserved : goal.loop-k-preserved
loop-k-preserved c =
    let l = c.loop-k in
    let x = c.args.board.now in
    tests_more (tidy_at x) l.k l.invariant (c.is_tidy-all.ensures ∙ tidy_on x l.k)

pub returns : goal.returns
unfolding tasks_tidy
returns c =
    let l = c.loop-k in
    let e : l.k ≡ 64 = omega arith in
    rw e at l.invariant

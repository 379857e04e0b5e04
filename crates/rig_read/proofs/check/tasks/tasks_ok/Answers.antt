use mathlib.Core.Path.{◌≡◌, sym, ◌∙◌}
use native.Mathlib.Omega.{arith}
use Rattle.base.proofs.Tests.{below_none, below_more, below_fails}
use Rattle.rig_read.specs.Passing.{task_passes, tasks_pass}
use Rattle.rig_read.proofs.check.tasks.tasks_ok.Goals as goal

pub loop-k-init : goal.loop-k-init
loop-k-init c = below_none _

pub passes_at-requires : goal.passes_at-requires
passes_at-requires c = (omega (arith, c.loop-k-test.true, c.requires.0), c.requires.1 c.loop-k.k c.loop-k-test.true)

pub returns-then-not-passes_at : goal.returns-then-not-passes_at
unfolding tasks_pass
returns-then-not-passes_at c =
    let a = c.args in
    sym (below_fails (task_passes a.lengths.now a.codes.now a.n a.m a.board.now) a.m c.loop-k.k c.loop-k-test.true (sym c.passes_at.ensures ∙ c.if-not-passes_at.true))

pub loop-k-preserved : goal.loop-k-preserved
loop-k-preserved c =
    below_more _ c.loop-k.k c.loop-k.invariant (sym c.passes_at.ensures ∙ c.if-not-passes_at.false)

pub returns : goal.returns
unfolding tasks_pass
returns c =
    let l = c.loop-k in
    let e : l.k ≡ c.args.m = omega arith in
    sym (rw e at l.invariant)

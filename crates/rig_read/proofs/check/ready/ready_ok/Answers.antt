use mathlib.Core.Path.{◌≡◌, sym, ◌∙◌}
use native.Mathlib.Omega.{arith}
use borrow.Author.Tests.{eq-eqb, ne_eqb}
use Rattle.base.proofs.Tests.{below_none, below_more, below_fails}
use Rattle.rules.specs.Sound.{ready_ok}
use Rattle.rig_read.proofs.Readies.{compared}
use Rattle.rig_read.proofs.check.ready.ready_ok.Invariants.{set_ok}
use Rattle.rig_read.proofs.check.ready.ready_ok.Goals as goal

pub loop-d-init : goal.loop-d-init
loop-d-init c = below_none _

pub returns-then-board-d : goal.returns-then-board-d
unfolding ready_ok
returns-then-board-d c =
    let a = c.args in
    let e = compared a.board.now a.m c.ready_sets-sets.ensures c.loop-d.d (omega arith) in
    sym (below_fails (set_ok a.m a.board.now) 6 c.loop-d.d (omega arith) (sym e ∙ ne_eqb _ _ c.if-board-d.true))

pub loop-d-preserved : goal.loop-d-preserved
loop-d-preserved c =
    let a = c.args in
    let e = compared a.board.now a.m c.ready_sets-sets.ensures c.loop-d.d (omega arith) in
    below_more _ _ c.loop-d.invariant (sym e ∙ eq-eqb _ _ c.if-board-d.false)

pub returns : goal.returns
unfolding ready_ok
returns c =
    let l = c.loop-d in
    let e : l.d ≡ 6 = omega arith in
    sym (rw e at l.invariant)

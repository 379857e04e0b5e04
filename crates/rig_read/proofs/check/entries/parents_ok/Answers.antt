use mathlib.Core.Path.{◌≡◌, sym, ◌∙◌}
use native.Mathlib.Omega.{arith}
use Rattle.base.proofs.Tests.{below_none, below_more, below_fails}
use Rattle.rig_read.specs.Passing.{block_passes}
use Rattle.rig_read.proofs.Blocks.{blocks}
use Rattle.rig_read.proofs.check.entries.parents_ok.Goals as goal

pub loop-b-init : goal.loop-b-init
loop-b-init c = below_none _

pub returns-then-not-block_ok : goal.returns-then-not-block_ok
returns-then-not-block_ok c =
    let a = c.args in
    let p = block_passes a.n a.m a.board.now in
    sym
    (blocks a.n a.m a.board.now
    ∙ below_fails p 24 c.loop-b.b (omega arith) (sym c.block_ok.ensures ∙ c.if-not-block_ok.true))

pub loop-b-preserved : goal.loop-b-preserved
loop-b-preserved c =
    let a = c.args in
    let p = block_passes a.n a.m a.board.now in
    below_more p c.loop-b.b c.loop-b.invariant (sym c.block_ok.ensures ∙ c.if-not-block_ok.false)

pub returns : goal.returns
returns c =
    let l = c.loop-b in
    let a = c.args in
    let e : l.b ≡ 24 = omega arith in
    sym (blocks a.n a.m a.board.now ∙ (rw e at l.invariant))

use mathlib.Core.Path.{◌≡◌, sym, ◌∙◌}
use native.Mathlib.Omega.{arith}
use Rattle.base.proofs.Tests.{below_none, below_more, below_fails}
use Rattle.rig_read.proofs.Blocks.{in_block, zeros_pass}
use Rattle.rig_read.proofs.check.entries.block_ok.Goals as goal

pub returns-then-block_zero : goal.returns-then-block_zero
returns-then-block_zero c = let a = c.args in sym (zeros_pass a.n a.m a.board.now a.b (sym c.block_zero.ensures ∙ c.if-block_zero.true))

pub loop-i-init : goal.loop-i-init
loop-i-init c = below_none _

pub returns-then-not-parent_ok : goal.returns-then-not-parent_ok
returns-then-not-parent_ok c =
    let a = c.args in
    let p = in_block a.n a.m a.board.now a.b in
    sym (below_fails p 16 c.loop-i.i (omega arith) (sym c.parent_ok.ensures ∙ c.if-not-parent_ok.true))

pub loop-i-preserved : goal.loop-i-preserved
loop-i-preserved c =
    let a = c.args in
    let p = in_block a.n a.m a.board.now a.b in
    below_more p c.loop-i.i c.loop-i.invariant (sym c.parent_ok.ensures ∙ c.if-not-parent_ok.false)

pub returns : goal.returns
returns c =
    let l = c.loop-i in
    let e : l.i ≡ 16 = omega arith in
    sym (rw e at l.invariant)

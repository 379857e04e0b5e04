use mathlib.Core.Path.{◌≡◌, sym, ◌∙◌}
use native.Mathlib.Omega.{arith}
use lib.ListN.{get_or}
use Rattle.base.proofs.Tests.{below_none, below_more, below_fails}
use Rattle.rig_read.specs.Passing.{channel_passes, channels_pass}
use Rattle.rig_read.proofs.check.entries.channels_ok.Goals as goal

pub loop-k-init : goal.loop-k-init
loop-k-init c = below_none _

pub returns-then-not-channel_ok : goal.returns-then-not-channel_ok
unfolding channels_pass
returns-then-not-channel_ok c =
    let l = c.loop-k in
    let a = c.args in
    sym (below_fails (λ i. channel_passes a.n (get_or a.board.now i 0)) 128 l.k (omega arith) (sym c.channel_ok.ensures ∙ c.if-not-channel_ok.true))

pub loop-k-preserved : goal.loop-k-preserved
loop-k-preserved c =
    let l = c.loop-k in
    below_more _ l.k l.invariant (sym c.channel_ok.ensures ∙ c.if-not-channel_ok.false)

pub returns : goal.returns
unfolding channels_pass
returns c =
    let l = c.loop-k in
    let e : l.k ≡ 128 = omega arith in
    sym (rw e at l.invariant)

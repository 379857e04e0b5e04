use mathlib.Core.Path.{◌≡◌}
use Prim.Native.Nat.{◌+◌}
use native.Mathlib.Omega.{arith}
use lib.ListN.{get_or}
use Rattle.rig_read.proofs.Zeros.{zeros_none, zeros_more}
use Rattle.rig_read.proofs.check.zeros.zeros_at.Goals as goal

pub loop-k-init : goal.loop-k-init
loop-k-init c = zeros_none (λ i. get_or c.args.b.now (c.args.first + i) 0)

pub loop-k-preserved : goal.loop-k-preserved
loop-k-preserved c =
    let l = c.loop-k in
    let a = c.args in
    zeros_more (λ i. get_or a.b.now (a.first + i) 0) l.k l.any l.invariant

pub returns : goal.returns
returns c =
    let l = c.loop-k in
    let e : l.k ≡ c.args.count = omega arith in
    rw e at l.invariant

use mathlib.Core.Path.{◌≡◌, sym}
use native.Mathlib.Omega.{arith}
use Rattle.plan_write.proofs.Entries.{total_none, total_more, total_part}
use Rattle.plan_write.proofs.header.total_of.Goals as goal

pub loop-k-init : goal.loop-k-init
loop-k-init c = sym (total_none c.args.lengths.now)

pub overflow_add-total : goal.overflow_add-total
overflow_add-total c = omega (arith, total_part c.args.lengths.now c.args.n c.loop-k.k c.loop-k-test.true)

pub loop-k-preserved : goal.loop-k-preserved
loop-k-preserved c = omega (arith, total_more c.args.lengths.now c.loop-k.k)

pub returns : goal.returns
returns c =
    let e : c.loop-k.k ≡ c.args.n = omega arith in
    rw (← e) c.loop-k.invariant

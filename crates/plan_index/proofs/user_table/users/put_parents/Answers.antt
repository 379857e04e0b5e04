use mathlib.Core.Path.{◌≡◌, ◌∙◌, ap}
use native.Mathlib.Omega.{arith}
use Rattle.plan_index.specs.user_table.Built.{with_parents}
use Rattle.plan_index.proofs.user_table.Parents.{parents_none, parents_more}
use Rattle.plan_index.proofs.user_table.users.put_parents.Goals as goal

pub loop-t-init : goal.loop-t-init
loop-t-init c = parents_none c.args.parents.now c.args.users.now

pub loop-t-preserved : goal.loop-t-preserved
loop-t-preserved c = rw c.loop-t.invariant (parents_more c.args.parents.now c.args.users.now c.loop-t.t)

pub returns : goal.returns
returns c =
    let e : c.loop-t.t ≡ 65 = omega arith in
    c.loop-t.invariant ∙ ap (λ n. with_parents c.args.parents.now n c.args.users.now) e

-- `rewrite`: an accepted file comes out as it went in.
use native.Mathlib.Omega.{arith}
use Rattle.plan_write.proofs.round_trip.Laws.{rewritten}
use Rattle.plan_write.proofs.round_trip.rewrite.Goals as goal

pub returns : goal.returns
returns c =
    let known = c.type_inv.file in
    rewritten _ _ _ _ _ (λ i. omega (arith, known i)) c.read_plan.ensures c.write_plan.ensures

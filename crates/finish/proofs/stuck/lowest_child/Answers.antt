use mathlib.Core.Path.{◌≡◌, sym, ◌∙◌}
use Prim.Native.Nat.{◌-◌}
use native.Mathlib.Omega.{arith}
use Rattle.rules.specs.Finish.{lowest}
use Rattle.claim.proofs.Lowest.{lowest_none, lowest_more, lowest_found}
use Rattle.finish.proofs.stuck.lowest_child.Goals as goal

pub loop-k-init : goal.loop-k-init
loop-k-init c = lowest_none _

pub has_child-requires : goal.has_child-requires
has_child-requires c = (omega arith, omega arith)

pub returns-then-has_child : goal.returns-then-has_child
returns-then-has_child c =
    sym (lowest_found 64 _ c.loop-k.k (omega arith) c.loop-k.invariant (sym c.has_child.ensures ∙ c.if-has_child.true))

pub loop-k-preserved : goal.loop-k-preserved
loop-k-preserved c =
    lowest_more c.loop-k.k _ c.loop-k.invariant (sym c.has_child.ensures ∙ c.if-has_child.false)

pub returns : goal.returns
returns c =
    let e : c.loop-k.k ≡ 64 = omega arith in
    sym (rw e at c.loop-k.invariant)

use mathlib.Core.Path.{◌≡◌, refl, ap, ◌∙◌}
use Prim.Native.Nat.{ℕ, ◌+◌}
use native.Mathlib.Omega.{arith}
use lib.ListN.{length, get_or, take, length-set}
use lib.Seq.{take-length}
use Rattle.plan_write.specs.output.Output.{overlay}
use Rattle.rig_write.proofs.Puts.{none_put, bytes_step}
use Rattle.rig_write.proofs.numbers.put_bytes.Goals as goal

pub loop-k-init : goal.loop-k-init
loop-k-init c = (refl, none_put c.args.b.now c.args.at)

pub loop-k-preserved : goal.loop-k-preserved
loop-k-preserved c =
    let a = c.args in
    (length-set c.loop-k.b (a.at + c.loop-k.k) (get_or a.xs.now c.loop-k.k 0) ∙ c.loop-k.invariant.0, bytes_step a.b.now c.loop-k.b a.xs.now a.at c.loop-k.k (omega arith) (omega arith) c.loop-k.invariant.1)

pub returns : goal.returns
returns c =
    let a = c.args in
    let e : c.loop-k.k ≡ length a.xs.now = omega arith in
    c.loop-k.invariant.1 ∙ ap (overlay a.b.now a.at) (ap (λ (k : ℕ). take k a.xs.now) e ∙ take-length a.xs.now)

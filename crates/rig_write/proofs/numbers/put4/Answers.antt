use mathlib.Core.Path.{ap, ◌∙◌}
use mathlib.Core.List.{List}
use Prim.Native.Nat.{ℕ}
use lib.ListN.{take}
use Rattle.plan_write.specs.output.Output.{overlay}
use Rattle.rig_write.proofs.Puts.{le4}
use Rattle.rig_write.proofs.numbers.put4.Goals as goal

pub returns : goal.returns
returns c =
    let a = c.args in
    c.put_bytes.ensures
    ∙ ap (overlay a.b.now a.at) (ap (λ (x : List ℕ). take 4 x) c.to_le_bytes.ensures ∙ le4 a.m)

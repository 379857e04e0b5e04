-- `step_bytes` writes a step as a step file has it.
use mathlib.Core.Path.{◌≡◌, ap}
use mathlib.Core.List.{[], ◌∷◌}
use Prim.Native.Nat.{ℕ, ◌+◌, ◌*◌, ◌/◌, ◌%◌}
use native.Mathlib.Omega.{arith}
use Rattle.rules.specs.StepFiles.{file_steps}
use Rattle.base.specs.Lists.{table, table_before}
use Rattle.rig_step.proofs.bytes.step_bytes.Goals as goal

pub returns : goal.returns
unfolding file_steps table table_before
returns c =
    let s = c.args.s in
    let e : s.number % 256 + 256 * (s.number / 256) ≡ s.number = omega arith in
    ap (λ (n : ℕ). (record { kind = s.kind; task = s.task; number = n }) ∷ []) e

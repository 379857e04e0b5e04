-- `stages::refused` gives the refusal and the plan of no task.
use mathlib.Core.Path.{◌≡◌, ap}
use Prim.Native.Nat.{ℕ}
use native.Mathlib.Omega.{arith}
use Rattle.std.specs.Prelude.{Err}
use Rattle.plan.specs.declared.Plan.{Plan}
use Rattle.plan_file.proofs.Empty.{no_task_lem}
use Rattle.plan_file.proofs.stages.refused.Goals as goal

pub returns : goal.returns
returns c =
    record {
      read = ap (λ (p : Plan). record { answer = Err c.args.r; plan = p }) no_task_lem;
      firsts = λ h. let d : ◌≡◌ {A = ℕ} 0 1 = cc in absurd (omega arith);
    }

-- The kind of a task's last executed instruction, by the arrays of a plan value, and the test of tasks 1 to T.
use Rattle.std.specs.Prelude.{Bool, ◌&&◌, List, ℕ, ◌+◌, ◌-◌, ◌*◌, ltb, get_or}
use Rattle.base.specs.Choice.{pick}
use Rattle.base.specs.Range.{up_to}
use Rattle.plan.specs.Programs.{instruction_of}
use Rattle.rules.specs.declared.system.System.{System}
use Rattle.rules.specs.Numbers.{task_id}
use Rattle.rules.specs.Systems.{task_at, task_program}
use Rattle.rules.specs.Sound.{task_ok, origin_ok}

-- of task k + 1 at place pc; 0 where it has executed none
abbrev pub last_kind : List ℕ → List ℕ → ℕ → ℕ → ℕ
last_kind lengths codes k pc = pick (ltb 1 pc && ltb (pc - 2) (get_or lengths k 0)) (instruction_of (get_or codes (64 * k + (pc - 2)) 0)).opcode 0

-- the part of `system_ok` about the tasks
abbrev pub tasks_ok : System → Bool
tasks_ok r = up_to r.plan.tasks (λ t. task_ok r.processors r.plan.tasks (task_program r (task_id t)) (task_at r (task_id t)))

-- and about their own pointers
abbrev pub origins_ok : System → Bool
origins_ok r = up_to r.plan.tasks (λ t. origin_ok r.processors t (task_at r (task_id t)))

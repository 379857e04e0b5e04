-- A verdict that leaves two tasks and no channel, carried out.
use mathlib.Core.Path.{◌≡◌}
use mathlib.Core.List.{List}
use Prim.Native.Nat.{ℕ}
use Rattle.std.specs.Prelude.{Ok}
use Rattle.plan.specs.declared.TaskId.{TaskId}
use Rattle.plan.specs.declared.ProcessorId.{ProcessorId}
use Rattle.rules.specs.declared.task.Task.{Task}
use Rattle.rules.specs.declared.rule.Posting.{Posting}
use Rattle.rules.specs.Numbers.{channel_id}
use Rattle.rules.specs.Systems.{task_stored}
use Rattle.rig_parts.specs.declared.sweep.Sweep.{Sweep}
use Rattle.rig_parts.specs.Sweeps.{swept, swept_parents}
use Rattle.rig_parts.specs.Fetches.{cell_put}
use Rattle.rig_parts.specs.Scopes.{scope}
use Rattle.rig_parts.specs.RunVerdicts.{change}
use Rattle.board.specs.declared.act.Act.{Act}
use Rattle.board.specs.Lent.{Lent, Whole, tasks_of, store_of, parents_on}
use Rattle.board.specs.Acted.{Acted, posted_act}
use Rattle.steps.specs.instruction.Locals.{two_tasks}

module _ (ss rs : List ℕ) (t u : TaskId) (d : ProcessorId) (a b : Task) (p : Posting) (w : Sweep) (before after : Lent) {r : Act} where
  -- tasks t and u become a and b, p is posted, and the sweep w is done
  pub two_acted : Whole after.board → r ≡ posted_act p → tasks_of after ≡ task_stored (task_stored (tasks_of before) t a) u b
      → store_of after ≡ swept ss rs w (store_of before) → parents_on after.board ≡ swept_parents w (parents_on before.board)
      → Acted ss rs (Ok (change (scope t u (channel_id 0) d) (two_tasks a b p) w)) before r after
  unfolding cell_put
  two_acted long act tasks store parents = record { whole = long; act = act; tasks = tasks; store = store; parents = parents }

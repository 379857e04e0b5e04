-- "Will this plan finish?": what the check asks of a rig at rest, and the text of its answer.
use Rattle.std.specs.Prelude.{Bool, not, ◌&&◌, List, [], ◌∷◌, ◌++◌, map, ℕ, zero, suc, eqb}
use Rattle.base.specs.Choice.{pick}
use Rattle.base.specs.Range.{up_to, joined}
use Rattle.base.specs.Sets.{member}
use Rattle.plan.specs.declared.TaskId.{TaskId}
use Rattle.plan.specs.Users.{sender_of, receiver_of}
use Rattle.rules.specs.declared.task.Task.{Task}
use Rattle.rules.specs.declared.task.TaskState.TheVariants.{Unborn, Sending, Receiving, Done}
use Rattle.rules.specs.declared.system.System.{System}
use Rattle.rules.specs.Numbers.{task_id, channel_id}
use Rattle.rules.specs.Tasks.{is_in}
use Rattle.rules.specs.Places.{last_in}
use Rattle.rules.specs.Systems.{task_at, task_program, meaning}
use Rattle.rules.specs.Trace.{decimal, fields}

-- "each born task that isn't done"
abbrev pub is_stuck : Task → Bool
is_stuck x = not (is_in Unborn x) && not (is_in Done x)

-- "It says yes exactly when every born task is then done"
unfoldable pub verdict : System → Bool
verdict r = up_to r.plan.tasks (λ t. not (is_stuck (task_at r (task_id t))))

-- the lowest of 1 .. n that is in the set s, 0 if none is
unfoldable pub lowest : ℕ → ℕ → ℕ
lowest zero s = 0
lowest (suc n) s =
    let q = lowest n s in
    pick (eqb q 0) (pick (member (suc n) s) (suc n) 0) q

-- "the task it depends on: the other end of its channel, or its lowest living child. A channel without another end gives 0."; "A task sends or
-- receives on the channel of its last executed instruction."
unfoldable pub depends_on : System → TaskId → TaskId
depends_on r t =
    let x = task_at r t in
    let c = channel_id (last_in (task_program r t) x).operand in
    pick (is_in Sending x) (receiver_of (meaning r) c)
    (pick (is_in Receiving x) (sender_of (meaning r) c)
    (task_id (lowest 64 x.children)))

-- a task, and the task that it depends on
pub record Stuck : Type 0 where
  pub task : TaskId
  pub on : TaskId

-- task t, if it is born and not done
unfoldable pub stuck_at : System → TaskId → List Stuck
stuck_at r t = pick (is_stuck (task_at r t)) (record { task = t; on = depends_on r t } ∷ []) []

-- "lists each born task that isn't done, by rising number, with the task it depends on"
unfoldable pub stuck_list : System → List Stuck
stuck_list r = joined r.plan.tasks (λ k. stuck_at r (task_id (suc k)))

-- the first line: `yes` or `no`, and beside the verdict the number of accepted run steps
unfoldable pub verdict_line : Bool → ℕ → List ℕ
verdict_line finishes work = pick finishes (121 ∷ 101 ∷ 115 ∷ []) (110 ∷ 111 ∷ []) ++ fields (work ∷ [])

-- a line of the list
unfoldable pub stuck_line : Stuck → List ℕ
stuck_line x = decimal x.task.0 ++ fields (x.on.0 ∷ [])

-- all lines, of a rig at rest after so many accepted run steps
unfoldable pub finish_lines : System → ℕ → List (List ℕ)
finish_lines r work = verdict_line (verdict r) work ∷ map stuck_line (stuck_list r)

-- A move of a task, and any step that is no run: what it supposes, and what it says of the tables that are not lent.
use Rattle.std.specs.Prelude.{◌≡◌, true, List, ℕ, ◌≤◌}
use Rattle.base.specs.Choice.{within}
use Rattle.plan.specs.declared.TaskId.{TaskId}
use Rattle.plan.specs.declared.ProcessorId.{ProcessorId}
use Rattle.rules.specs.declared.task.TaskState.TheVariants.{Ready}
use Rattle.rules.specs.declared.step.Step.{Step}
use Rattle.rules.specs.declared.system.TaskTable.{TaskTable}
use Rattle.rules.specs.Tasks.{is_in}
use Rattle.rules.specs.Systems.{task_in}
use Rattle.rig_parts.specs.MoveVerdicts.{ready_counts, judged_move}
use Rattle.plan_index.specs.user_table.Users.{senders_of, receivers_of, Indexed}
use Rattle.board.specs.declared.act.Act.{Act}
use Rattle.board.specs.declared.act.Size.{Size}
use Rattle.board.specs.Lent.{lent, Whole, tasks_on, tasks_of, kept_of}
use Rattle.board.specs.Acted.{Acted}
use Rattle.board.specs.Rigs.{facts_in}
use Rattle.board.specs.Verdicts.{step_verdict}

-- a ready task is at a desk
abbrev pub ready_placed : ℕ → TaskTable → TaskId → Type 0
ready_placed m ts t = within 1 m t.0 ≡ true → is_in Ready (task_in ts t) ≡ true → within 1 6 (task_in ts t).processor.0 ≡ true

-- what a move supposes
pub record CanMove (users board : List ℕ) (m : ℕ) (t : TaskId) : Type 0 where
  pub whole : Whole board
  pub indexed : Indexed users
  pub few : m ≤ 64
  pub counts : ready_counts m (tasks_on board) t
  pub processor : ready_placed m (tasks_on board) t

-- it was carried out, beside any held offers and notes
abbrev pub Moved : List ℕ → Size → TaskId → ProcessorId → List ℕ → List ℕ → List ℕ → Act → List ℕ → List ℕ → List ℕ → Type 0
Moved users n t e hp hm board r hp' hm' board' =
    (heldprocessors heldnumbers notes : List ℕ)
    → Acted (senders_of users) (receivers_of users) (judged_move n.tasks n.processors (tasks_on board) n.used t e)
    (lent hp hm heldprocessors heldnumbers notes board) r (lent hp' hm' heldprocessors heldnumbers notes board')

-- a step that is no run was carried out, whatever the codes and the numbers, beside any held offers and notes
abbrev pub NotRun : List ℕ → Size → Step → List ℕ → List ℕ → List ℕ → Act → List ℕ → List ℕ → List ℕ → Type 0
NotRun users n x hp hm board r hp' hm' board' =
    (codes numbers heldprocessors heldnumbers notes : List ℕ)
    → let l = lent hp hm heldprocessors heldnumbers notes board in
    Acted (senders_of users) (receivers_of users)
    (step_verdict (facts_in n.tasks codes numbers users) n.processors (tasks_of l) (kept_of l) n.used x)
    l r (lent hp' hm' heldprocessors heldnumbers notes board')

-- Run: the instructions that use no channel.
use Rattle.base.specs.Choice.{pick}
use Rattle.base.specs.Sets.{inserted}
use Rattle.plan.specs.declared.TaskId.{TaskId}
use Rattle.plan.specs.declared.Instruction.{Instruction}
use Rattle.plan.specs.Words.{set_word, add_word}
use Rattle.rules.specs.declared.task.Task.{Task}
use Rattle.rules.specs.declared.task.TaskState.TheVariants.{Waiting, Done}
use Rattle.rules.specs.declared.message.Message.TheVariants.{Terminated}
use Rattle.rules.specs.declared.rule.Posting.TheVariants.{Nothing, Single}
use Rattle.rules.specs.declared.rule.Finished.{Finished}
use Rattle.rules.specs.declared.system.ParentEntry.{ParentEntry}
use Rattle.rules.specs.Numbers.{same_task, same_processor, task_id}
use Rattle.rules.specs.Hints.{newer}
use Rattle.rules.specs.Tasks.{is_at, with_state, with_word, marked, advanced, with_child, is_childless, without_child}

-- "Create: the child becomes ready at d .. and joins the living children.": the creating task; the child's is a birth
abbrev pub create_rule : Task → TaskId → Task
create_rule x u = advanced (with_child x u)

-- "Sync: waits if children live."
unfoldable pub sync_rule : Task → Task
sync_rule x = pick (is_childless x) (advanced x) (advanced (with_state x Waiting))

-- a child is held at a desk for its parent
abbrev pub holding_child : ParentEntry → TaskId → ParentEntry
holding_child e t = record { hint = e.hint; held = inserted t.0 e.held }

-- "Finish: done. A parent at d loses the child from its set; a parent elsewhere gets an ended letter naming the child, .. Task 1 has no parent.";
-- "A finishing child elsewhere sends its ended letter, with that count, along the newer of its own and the desk's pointer."; "Where the newer
-- pointer names the child's desk and the parent isn't there, the child is held.": task t, with record x, its parent's record, and what its
-- desk keeps for the parent
unfoldable pub finish_rule : TaskId → Task → Task → ParentEntry → Finished
finish_rule t x parent e =
    let done = advanced (with_state x Done) in
    let along = newer e.hint x.origin in
    pick (same_task t (task_id 1)) (record { task = done; parent = parent; entry = e; posting = Nothing })
    (pick (is_at x.processor parent) (record { task = done; parent = without_child parent t; entry = e; posting = Nothing })
    (pick (same_processor along.processor x.processor) (record { task = done; parent = parent; entry = holding_child e t; posting = Nothing })
    (record { task = done; parent = parent; entry = e; posting = Single (Terminated along t) })))

-- "Set stores the task's word; add is taken modulo 65,536."
abbrev pub set_rule : Task → Instruction → Task
set_rule x i = advanced (with_word x (set_word x.word i))

-- "Adding now tells whether the sum passed 65,535, besides the wrapped word. A task that met this .. carries a mark"
abbrev pub add_rule : Task → Instruction → Task
add_rule x i =
    let s = add_word x.word i in
    advanced (marked (with_word x s.word) s.overflow)

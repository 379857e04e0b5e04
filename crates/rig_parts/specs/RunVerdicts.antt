-- The verdict on a run.
use Rattle.std.specs.Prelude.{true, List, ℕ, ◌-◌, eqb, get_or, None, Ok, Err}
use Rattle.base.specs.Choice.{pick, unless}
use Rattle.plan.specs.declared.TaskId.{TaskId}
use Rattle.plan.specs.declared.Instruction.{Instruction}
use Rattle.plan.specs.Kinds.{op_send, op_receive}
use Rattle.rules.specs.declared.task.Task.{Task}
use Rattle.rules.specs.declared.rule.Site.{Site}
use Rattle.rules.specs.declared.rule.Outcome.{Outcome}
use Rattle.rules.specs.declared.rule.Posting.{Posting}
use Rattle.rules.specs.declared.rule.Posting.TheVariants.{Nothing as NoPosting}
use Rattle.rules.specs.Answers.{StepAnswer}
use Rattle.rules.specs.declared.step.StepRefusal.TheVariants.{NetworkFull}
use Rattle.rules.specs.declared.system.TaskTable.{TaskTable}
use Rattle.rules.specs.declared.system.ParentEntry.{ParentEntry}
use Rattle.rules.specs.Numbers.{task_id, channel_id}
use Rattle.rules.specs.Hints.{hint}
use Rattle.rules.specs.Tasks.{born}
use Rattle.rules.specs.Networks.{fits_in}
use Rattle.rules.specs.Local.{create_rule, sync_rule, finish_rule, set_rule, add_rule}
use Rattle.rules.specs.Send.{send_rule}
use Rattle.rules.specs.Systems.{task_in}
use Rattle.rules.specs.Receive.{receive_rule}
use Rattle.rules.specs.Runs.{by_opcode, run_tests}
use Rattle.rig_parts.specs.declared.sweep.Sweep.{Sweep}
use Rattle.rig_parts.specs.declared.sweep.Sweep.TheVariants.{Nothing, Birth, Ending}
use Rattle.rig_parts.specs.declared.kept.Kept.{Kept}
use Rattle.rig_parts.specs.declared.change.Scope.{Scope}
use Rattle.rig_parts.specs.declared.change.Change.{Change}
use Rattle.rig_parts.specs.Answers.{Verdict}
use Rattle.rig_parts.specs.Sweeps.{parent_in}
use Rattle.rig_parts.specs.Facts.{Facts}
use Rattle.rig_parts.specs.Fetches.{instruction_in, slot_at, last_of, site_in}
use Rattle.rig_parts.specs.Scopes.{run_scope}
use Rattle.rig_parts.specs.Answers.{unless_refused}

abbrev pub change : Scope → Outcome → Sweep → Change
change k o s = record { scope = k; outcome = o; sweep = s }

-- two tasks are changed, and this is posted
abbrev pub tasks_only : Site → Task → Task → Posting → Outcome
tasks_only x s u p = record { sender = s; receiver = u; cell = x.cell; posting = p; received = None }

-- a create: the creating task and the child
abbrev pub create_change : Scope → Site → Instruction → Change
create_change k x i =
    let d = x.sender.processor in
    change k (tasks_only x (create_rule x.sender (task_id i.operand)) (born d (hint d x.sender.moves)) NoPosting)
    (Birth (task_id i.operand) d)

-- a finish of task t: its parent, the task, and what the desk keeps for the parent
abbrev pub finish_change : Scope → Site → TaskId → ParentEntry → Change
finish_change k x t e =
    let o = finish_rule t x.receiver x.sender e in
    change k (tasks_only x o.parent o.task o.posting) (Ending k.sender k.processor o.entry)

-- another instruction changes its task alone
abbrev pub task_change : Scope → Site → Task → Change
task_change k x y = change k (tasks_only x y x.receiver NoPosting) Nothing

-- instruction i of task t at a site; w is the number of the send, e what the desk keeps for the parent
unfoldable pub run_change : Scope → TaskId → Instruction → ℕ → Site → ParentEntry → Change
run_change k t i w x e =
    by_opcode i
    (create_change k x i)
    (task_change k x (sync_rule x.sender))
    (finish_change k x t e)
    (change k (send_rule x (channel_id i.operand) w) Nothing)
    (change k (receive_rule x (channel_id i.operand) w) Nothing)
    (task_change k x (set_rule x.sender i))
    (task_change k x (add_rule x.sender i))

-- the number of the send that instruction i of task t is, or of the last one that the channel's sender executed
unfoldable pub send_in : List ℕ → TaskId → Instruction → Scope → Site → ℕ
send_in numbers t i k x =
    pick (eqb i.opcode op_receive) (last_of numbers k.sender x.sender.pc)
    (pick (eqb i.opcode op_send) (get_or numbers (slot_at t (x.sender.pc - 1)) 0)
    0)

-- 13, unless its letters fit
abbrev pub fitting_in : ℕ → ℕ → Change → Verdict
fitting_in n used k = unless (fits_in n k.outcome.posting used) (Err NetworkFull) (Ok k)

-- what instruction i of task t would do
unfoldable pub ran_in : Facts → TaskTable → Kept → TaskId → Instruction → Change
ran_in f ts s t i =
    let k = run_scope f.senders f.receivers f.parents t (task_in ts t).processor i in
    let x = site_in f.codes ts s.store k in
    run_change k t i (send_in f.numbers t i k x) x (parent_in s.parents k.processor k.sender)

-- the tests of a run but the last: 10, 11, 12
unfoldable pub run_refusal : List ℕ → ℕ → TaskTable → TaskId → StepAnswer
run_refusal codes count ts t =
    let x = task_in ts t in
    run_tests count t x (instruction_in codes t x.pc) true

-- what the instruction does, where they refuse nothing and its letters fit
unfoldable pub judged_run : Facts → ℕ → TaskTable → Kept → ℕ → TaskId → Verdict
judged_run f n ts s used t =
    unless_refused (run_refusal f.codes f.tasks ts t)
    (fitting_in n used (ran_in f ts s t (instruction_in f.codes t (task_in ts t).pc)))

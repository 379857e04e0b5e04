-- "Run: one instruction of a ready task at desk d".
use Rattle.std.specs.Prelude.{Bool, not, ◌&&◌, ℕ, ◌-◌, eqb, Ok, Err}
use Rattle.base.specs.Choice.{pick, unless}
use Rattle.plan.specs.declared.TaskId.{TaskId}
use Rattle.plan.specs.declared.ChannelId.{ChannelId}
use Rattle.plan.specs.declared.Instruction.{Instruction}
use Rattle.plan.specs.Kinds.{op_create, op_sync, op_finish, op_send, op_receive, op_set, is_finish}
use Rattle.plan.specs.Users.{sender_of, receiver_of, parent_of}
use Rattle.rules.specs.declared.task.Task.{Task}
use Rattle.rules.specs.declared.task.TaskState.TheVariants.{Ready}
use Rattle.rules.specs.Answers.{StepAnswer}
use Rattle.rules.specs.declared.step.StepRefusal.TheVariants.{NoTask, NotReady, FinishWithChildren, NetworkFull}
use Rattle.rules.specs.declared.system.System.{System}
use Rattle.rules.specs.Numbers.{task_id, channel_id, task_number_ok}
use Rattle.rules.specs.Tasks.{is_in, is_childless}
use Rattle.rules.specs.Networks.{fits_in}
use Rattle.rules.specs.Hints.{hint}
use Rattle.rules.specs.Systems.{task_at, with_task, parent_at, with_parent, meaning, task_program}
use Rattle.rules.specs.Places.{next_in, send_number}
use Rattle.rules.specs.Effects.{Effect, changed, changed_posting, applied}
use Rattle.rules.specs.Starts.{birth}
use Rattle.rules.specs.Local.{create_rule, sync_rule, finish_rule, set_rule, add_rule}
use Rattle.rules.specs.Send.{send_rule}
use Rattle.rules.specs.Receive.{receive_rule}

-- each instruction of task t on the rig; d is the task's desk
-- the child's own pointer is the creating task's desk and move count
unfoldable pub ran_create : System → TaskId → TaskId → Effect
ran_create r t u =
    let d = (task_at r t).processor in
    changed (birth (with_task r t (create_rule (task_at r t) u)) u d (hint d (task_at r t).moves))

unfoldable pub ran_finish : System → TaskId → Effect
ran_finish r t =
    let p = parent_of (meaning r) t in
    let d = (task_at r t).processor in
    let o = finish_rule t (task_at r t) (task_at r p) (parent_at r d p) in
    changed_posting (with_parent (with_task (with_task r p o.parent) t o.task) d p o.entry) o.posting

-- the number of a send is counted to this one
unfoldable pub ran_send : System → TaskId → ChannelId → Effect
ran_send r t c =
    applied r t (receiver_of (meaning r) c) c (task_at r t).processor (λ x. send_rule x c (send_number (task_program r t) c x.sender.pc))

-- "that send's number": the sends on c that the sender has executed
unfoldable pub ran_receive : System → TaskId → ChannelId → Effect
ran_receive r t c =
    let s = sender_of (meaning r) c in
    applied r s t c (task_at r t).processor (λ x. receive_rule x c (send_number (task_program r s) c (x.sender.pc - 1)))

-- one of seven, by the kind of an instruction; the last choice is add, since an accepted plan has no other kind
abbrev pub by_opcode : {A : Type 0} → Instruction → A → A → A → A → A → A → A → A
by_opcode i create sync finish send receive set add =
    pick (eqb i.opcode op_create) create
    (pick (eqb i.opcode op_sync) sync
    (pick (eqb i.opcode op_finish) finish
    (pick (eqb i.opcode op_send) send
    (pick (eqb i.opcode op_receive) receive
    (pick (eqb i.opcode op_set) set
    add)))))

-- instruction i of task t
unfoldable pub executed : System → TaskId → Instruction → Effect
executed r t i =
    by_opcode i
    (ran_create r t (task_id i.operand))
    (changed (with_task r t (sync_rule (task_at r t))))
    (ran_finish r t)
    (ran_send r t (channel_id i.operand))
    (ran_receive r t (channel_id i.operand))
    (changed (with_task r t (set_rule (task_at r t) i)))
    (changed (with_task r t (add_rule (task_at r t) i)))

-- the instruction that task t runs next
abbrev pub next_of : System → TaskId → Instruction
next_of r t = next_in (task_program r t) (task_at r t)

-- a run step of task t
unfoldable pub ran : System → TaskId → Effect
ran r t = executed r t (next_of r t)

-- its letters fit in the rig's mail
unfoldable pub fits : System → Effect → Bool
fits r e = fits_in r.processors e.posting r.network.used

-- "finish with living children": instruction i of a task with record x
abbrev pub ends_early : Task → Instruction → Bool
ends_early x i = is_finish i && not (is_childless x)

-- "Then run: 10, no such task; 11, not ready; 12, finish with living children; 13, the letters needed don't fit in the mail.": task t of so
-- many, with record x, would run instruction i
abbrev pub run_tests : ℕ → TaskId → Task → Instruction → Bool → StepAnswer
run_tests tasks t x i fitting =
    unless (task_number_ok tasks t) (Err NoTask)
    (unless (is_in Ready x) (Err NotReady)
    (unless (not (ends_early x i)) (Err FinishWithChildren)
    (unless fitting (Err NetworkFull)
    (Ok tt))))

-- of the rig
abbrev pub finishes_early : System → TaskId → Bool
finishes_early r t = ends_early (task_at r t) (next_of r t)

unfoldable pub run_answer : System → TaskId → StepAnswer
run_answer r t = run_tests r.plan.tasks t (task_at r t) (next_of r t) (fits r (ran r t))

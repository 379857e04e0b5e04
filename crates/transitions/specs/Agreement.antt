-- The rig against the net.
use Rattle.std.specs.Prelude.{◌≡◌, true, false, not, List, [], ◌∷◌, ◌++◌, suc, ◌+◌, ◌≤◌, length}
use Rattle.base.specs.Choice.{pick, within}
use Rattle.plan.specs.declared.TaskId.{TaskId}
use Rattle.plan.specs.declared.ChannelId.{ChannelId}
use Rattle.plan.specs.declared.Word.{Word}
use Rattle.plan.specs.Numbers.{task_id, channel_id}
use Rattle.plan.specs.Kinds.{op_sync}
use Rattle.plan.specs.Programs.{Program, Programs}
use Rattle.plan.specs.Users.{parent_of}
use Rattle.rules.specs.declared.task.TaskState.TheVariants.{Unborn, Waiting, Receiving, Done}
use Rattle.rules.specs.declared.task.Task.{Task}
use Rattle.rules.specs.declared.message.Message.{Message}
use Rattle.rules.specs.Tasks.{is_in, is_childless}
use Rattle.rules.specs.Places.{last_in}
use Rattle.rules.specs.Sound.{task_ok}
use Rattle.net.specs.States.{Net}
use Rattle.channel.specs.Invariant.{Invariant}
use Rattle.transitions.specs.Readings.{Reading}
use Rattle.transitions.specs.Progress.{program_of, completed_by}
use Rattle.transitions.specs.Messages.{messages_on, words_in, ended_of, movers_of}
use Rattle.transitions.specs.Views.{Histories, view_of}
use Rattle.transitions.specs.Family.{Placed, Child, Kin}

-- the words on their way to a task x with program g: the net's task has them already
unfoldable pub coming_to : Program → List Message → Task → List Word
coming_to g ms x = pick (is_in Receiving x) (words_in (messages_on (channel_id (last_in g x).operand) ms)) []

-- the word of a task to which these are on their way
unfoldable pub word_with : Word → List Word → Word
word_with w [] = w
word_with w (v ∷ vs) = v

-- task t with record x, in the net and in the rig
pub record Agrees (m : Programs) (s : Net) (ms : List Message) (t : TaskId) (x : Task) : Type 0 where
  pub born : s.born t ≡ not (is_in Unborn x)
  pub completed : s.completed t ≡ completed_by x + length (coming_to (program_of m t) ms x)
  pub word : s.word t ≡ word_with x.word (coming_to (program_of m t) ms x)
  pub overflow : s.overflow t ≡ x.overflow
  -- a waiting task waits at a sync, for a child
  pub sync : is_in Waiting x ≡ true → (last_in (program_of m t) x).opcode ≡ op_sync
  pub waits : is_in Waiting x ≡ true → is_childless x ≡ false
  -- a done task has executed all
  pub done : is_in Done x ≡ true → x.pc ≡ suc (length (program_of m t))

-- the words received so far and those under way are the words passed in the net
abbrev pub PassedAlike : Net → (ChannelId → List Word) → List Message → Type 0
PassedAlike s received ms = (c : ChannelId) → s.passed c ≡ received c ++ words_in (messages_on c ms)

-- what 9 says of the tasks
abbrev pub TasksOk : Programs → Reading → Type 0
TasksOk m x = (t : TaskId) → within 1 (length m) t.0 ≡ true → task_ok x.processors (length m) (program_of m t) (x.tasks t) ≡ true

-- all that holds of a rig that a run from the start reaches, with the words received
pub record Running (m : Programs) (h : Histories) (s : Net) (x : Reading) (received : ChannelId → List Word) : Type 0 where
  pub few : x.processors ≤ 6
  pub tasks : TasksOk m x
  pub views : (c : ChannelId) → 1 ≤ c.0 → c.0 ≤ 128 → Invariant (view_of m h x c)
  pub places : (t : TaskId) → within 1 (length m) t.0 ≡ true → Placed x.processors (h t) (x.tasks t) (x.parents t) (movers_of t x.messages)
  pub children : (u : TaskId) → within 2 (length m) u.0 ≡ true
      → Child u (h (parent_of m u)) (x.tasks (parent_of m u)) (x.tasks u) (x.parents (parent_of m u)) (ended_of u x.messages)
  pub kin : Kin m x.tasks
  -- task 1 has no parent, so that no ended letter names it
  pub root : ended_of (task_id 1) x.messages ≡ []
  pub agrees : (t : TaskId) → Agrees m s x.messages t (x.tasks t)
  pub passed : PassedAlike s received x.messages

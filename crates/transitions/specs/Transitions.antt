-- The accepted steps, as changes of a rig that is read: from x to y. m is the plan's meaning. The steps about one channel first, then those of
-- one task, births, ends, departures and arrivals.
use Rattle.std.specs.Prelude.{◌≡◌, ◌≢◌, true, false, List, [], ◌++◌, ℕ, suc, ◌+◌, ◌≤◌, ◌<◌, length, None, Some}
use Rattle.std.proofs.Math.Option.{some}
use Rattle.std.proofs.Math.ListN.{get_elem?}
use Rattle.base.specs.Choice.{within}
use Rattle.base.specs.Sets.{member}
use Rattle.plan.specs.declared.TaskId.{TaskId}
use Rattle.plan.specs.declared.ProcessorId.{ProcessorId}
use Rattle.plan.specs.declared.ChannelId.{ChannelId}
use Rattle.plan.specs.declared.Instruction.{Instruction}
use Rattle.plan.specs.declared.Word.{Word}
use Rattle.plan.specs.Numbers.{task_id}
use Rattle.plan.specs.Kinds.{op_create, op_sync, op_send, op_receive, is_use, is_finish}
use Rattle.plan.specs.Programs.{Programs}
use Rattle.plan.specs.Users.{sender_of, receiver_of, parent_of}
use Rattle.rules.specs.declared.task.TaskState.TheVariants.{Unborn, Ready, Waiting, Sending, Receiving, Moving, Done}
use Rattle.rules.specs.declared.task.Task.{Task}
use Rattle.rules.specs.declared.message.Message.TheVariants.{Terminated, Migration}
use Rattle.rules.specs.Reports.{Received}
use Rattle.rules.specs.Tasks.{is_in, is_childless, with_state, with_word, with_overflow, advanced, born, departed, arrived, without_child, without_children}
use Rattle.rules.specs.Places.{next_in}
use Rattle.rules.specs.Local.{create_rule, holding_child}
use Rattle.net.specs.States.{at_task}
use Rattle.net.specs.Labels.{is_create, is_join, is_transfer}
use Rattle.net.specs.Effects.{word_after, overflow_after}
use Rattle.channel.specs.Updates.{at_number}
use Rattle.channel.specs.Bags.{one, without}
use Rattle.channel.specs.Views.{View}
use Rattle.channel.specs.Events.{Event, Transfer, Delivery, transfer, delivery, guard, after, sender_born_lem, sender_arrives_lem, receiver_born_lem}
use Rattle.channel.specs.Events.{receiver_arrives_lem, sender_departs_lem, receiver_departs_lem, place_guard, placed}
use Rattle.transitions.specs.Readings.{Reading, kept_for}
use Rattle.transitions.specs.Progress.{program_of}
use Rattle.transitions.specs.Messages.{messages_on, words_in, ended_of, movers_of}
use Rattle.transitions.specs.Views.{Histories, view_of}
use Rattle.transitions.specs.EndSteps.{EndStep}
use Rattle.rules.specs.declared.channel.Hint.{Hint}
use Rattle.rules.specs.Hints.{hint}
use Rattle.rules.specs.Starts.{pointing}
use Rattle.rules.specs.Arrivals.{arrival_parent}
use Rattle.channel.specs.Hints.{Way, Coming}

-- How a word passes a channel c: the sender's word, the words under way before, how many instructions the sender and the receiver complete, the
-- receiver's word then, the words under way after, and what is reported as received
pub data Passing (c : ChannelId) (value : Word) (before : List Word) : ℕ → ℕ → Word → List Word → Received → Type 0 where
  nothing : {w : Word} → Passing c value before 0 0 w before None
  direct : before ≡ [] → Passing c value before 1 1 value [] (Some (c, value))
  called : {w : Word} → before ≡ [] → Passing c value before 1 0 w (one value) None
  taken : (w : Word) → before ≡ one w → Passing c value before 0 1 w [] (Some (c, w))

-- Whose place goes on by an event of a channel: the sender's or the receiver's by a transfer, nobody's by a delivery. s and u are the two ends
pub data Ran (m : Programs) (s u : TaskId) (x y : TaskId → Task) : Event → Type 0 where
  by_sender : {e : Transfer} → within 1 (length m) s.0 ≡ true → (x s).pc ≤ length (program_of m s) → (y s).pc ≡ suc (x s).pc → (y u).pc ≡ (x u).pc
      → Ran m s u x y (transfer e)
  by_receiver : {e : Transfer} → within 1 (length m) u.0 ≡ true → (x u).pc ≤ length (program_of m u) → (y u).pc ≡ suc (x u).pc → (y s).pc ≡ (x s).pc
      → Ran m s u x y (transfer e)
  by_nobody : {p : ℕ} {a : Delivery} → (y s).pc ≡ (x s).pc → (y u).pc ≡ (x u).pc → Ran m s u x y (delivery p a)

-- a step about one channel, by one event
pub record ChannelTransition (m : Programs) (h : Histories) (x y : Reading) (e : Event) (received : Received) : Type 0 where
  pub channel : ChannelId
  pub low : 1 ≤ channel.0
  pub high : channel.0 ≤ 128
  -- the event, and no other channel's view changes
  pub allowed : guard e (view_of m h x channel)
  pub view : view_of m h y channel ≡ after e (view_of m h x channel)
  pub others : (d : ChannelId) → 1 ≤ d.0 → d.0 ≤ 128 → d.0 ≢ channel.0 → view_of m h y d ≡ view_of m h x d
  -- the two ends
  pub sender : Task
  pub receiver : Task
  pub tasks : y.tasks ≡ at_task (at_task x.tasks (sender_of m channel) sender) (receiver_of m channel) receiver
  pub sent : ℕ
  pub got : ℕ
  pub value : Word
  pub sender_end_step : EndStep (program_of m (sender_of m channel)) op_send Sending channel (x.tasks (sender_of m channel)) sent
      (x.tasks (sender_of m channel)).word sender
  pub receiver_end_step : EndStep (program_of m (receiver_of m channel)) op_receive Receiving channel (x.tasks (receiver_of m channel)) got value receiver
  -- the word
  pub passing : Passing channel (x.tasks (sender_of m channel)).word (words_in (messages_on channel x.messages)) sent got value
      (words_in (messages_on channel y.messages)) received
  pub ran : Ran m (sender_of m channel) (receiver_of m channel) x.tasks y.tasks e
  pub parents : y.parents ≡ x.parents
  -- the mail: other letters stay
  pub processors : y.processors ≡ x.processors
  pub other_messages : (d : ChannelId) → d.0 ≢ channel.0 → messages_on d y.messages ≡ messages_on d x.messages
  pub ended : (t : TaskId) → ended_of t y.messages ≡ ended_of t x.messages
  pub movers : (t : TaskId) → movers_of t y.messages ≡ movers_of t x.messages

-- no channel's view changes
pub record Unseen (m : Programs) (h : Histories) (x y : Reading) : Type 0 where
  pub processors : y.processors ≡ x.processors
  pub views : (c : ChannelId) → 1 ≤ c.0 → c.0 ≤ 128 → view_of m h y c ≡ view_of m h x c

-- task t runs: it is ready, and i is its next instruction
pub record Runs (m : Programs) (x : Reading) (t : TaskId) (i : Instruction) : Type 0 where
  pub number : within 1 (length m) t.0 ≡ true
  pub ready : is_in Ready (x.tasks t) ≡ true
  pub low : 1 ≤ (x.tasks t).pc
  pub high : (x.tasks t).pc ≤ length (program_of m t)
  pub next : next_in (program_of m t) (x.tasks t) ≡ i

-- a task after an instruction of its own, as in the net: its word and its mark, one place on
abbrev pub went_on : Instruction → Task → Task
went_on i x = advanced (with_overflow (with_word x (word_after i x.word)) (overflow_after i x.word x.overflow))

-- what becomes of a task by an instruction of its own that is no create and no finish: it goes on, or it waits for its children
pub data Own (i : Instruction) (x : Task) : Task → Type 0 where
  goes_on : is_transfer i ≡ false → (is_join i ≡ true → is_childless x ≡ true) → Own i x (went_on i x)
  waits : i.opcode ≡ op_sync → is_childless x ≡ false → Own i x (advanced (with_state x Waiting))

-- sync, set and add
pub record OwnTransition (m : Programs) (h : Histories) (x y : Reading) : Type 0 where
  pub task : TaskId
  pub instruction : Instruction
  pub runs : Runs m x task instruction
  pub not_create : is_create instruction ≡ false
  pub not_finish : is_finish instruction ≡ false
  pub then : Task
  pub own : Own instruction (x.tasks task) then
  pub tasks : y.tasks ≡ at_task x.tasks task then
  pub parents : y.parents ≡ x.parents
  pub messages : y.messages ≡ x.messages
  pub unseen : Unseen m h x y

-- a birth or an arrival of one end, or nothing
pub data Placing (v : View) : View → Type 0 where
  none : Placing v v
  sender_birth : (d : ℕ) → place_guard (sender_born_lem d) v → Placing v (placed (sender_born_lem d) v)
  receiver_birth : (d : ℕ) → place_guard (receiver_born_lem d) v → Placing v (placed (receiver_born_lem d) v)
  sender_arrival : (d : ℕ) → place_guard (sender_arrives_lem d) v → Placing v (placed (sender_arrives_lem d) v)
  receiver_arrival : (d : ℕ) → place_guard (receiver_arrives_lem d) v → Placing v (placed (receiver_arrives_lem d) v)

-- a departure of one end, or nothing
pub data Departing (v : View) : View → Type 0 where
  none : Departing v v
  sender_departure : place_guard sender_departs_lem v → Departing v (placed sender_departs_lem v)
  receiver_departure : (e : ℕ) → place_guard (receiver_departs_lem e) v → Departing v (placed (receiver_departs_lem e) v)

-- create: the history of the child begins, and the desk's pointer to it is set
abbrev pub sent_to : Histories → TaskId → ℕ → ProcessorId → Histories
sent_to h t k d = at_task h t (at_number (h t) k d.0)

pub record CreateTransition (m : Programs) (h h' : Histories) (x y : Reading) : Type 0 where
  pub task : TaskId
  pub child : TaskId
  pub instruction : Instruction
  pub runs : Runs m x task instruction
  pub creates : is_use op_create child.0 instruction ≡ true
  pub unborn : is_in Unborn (x.tasks child) ≡ true
  pub history : h' ≡ sent_to h child 1 (x.tasks task).processor
  pub tasks : y.tasks
      ≡ at_task (at_task x.tasks task (create_rule (x.tasks task) child)) child
      (born (x.tasks task).processor (hint (x.tasks task).processor (x.tasks task).moves))
  pub parents : y.parents
      ≡ kept_for x child (x.tasks task).processor.0 (pointing (x.parents child (x.tasks task).processor.0) (hint (x.tasks task).processor 1))
  pub messages : y.messages ≡ x.messages
  pub processors : y.processors ≡ x.processors
  pub views : (c : ChannelId) → 1 ≤ c.0 → c.0 ≤ 128 → Placing (view_of m h x c) (view_of m h' y c)

abbrev pub finished : Task → Task
finished x = advanced (with_state x Done)

-- what a finish of task t does: task 1 has no parent, a parent at the same desk loses the child, one elsewhere gets a letter along a pointer that
-- says where it was sent. No child is held at its own finish
pub data Finishing (m : Programs) (h : Histories) (x y : Reading) (t : TaskId) : Type 0 where
  alone : t ≡ task_id 1 → y.tasks ≡ at_task x.tasks t (finished (x.tasks t)) → y.messages ≡ x.messages → Finishing m h x y t
  near : t.0 ≢ 1 → y.tasks ≡ at_task (at_task x.tasks (parent_of m t) (without_child (x.tasks (parent_of m t)) t)) t (finished (x.tasks t))
      → y.messages ≡ x.messages → Finishing m h x y t
  away : (along : Hint) → t.0 ≢ 1 → Way (h (parent_of m t)) (x.tasks (parent_of m t)).moves along.processor.0 along.moves
      → y.tasks ≡ at_task x.tasks t (finished (x.tasks t)) → y.messages ≡ x.messages ++ one (Terminated along t) → Finishing m h x y t

pub record FinishTransition (m : Programs) (h : Histories) (x y : Reading) : Type 0 where
  pub task : TaskId
  pub instruction : Instruction
  pub runs : Runs m x task instruction
  pub finishes : is_finish instruction ≡ true
  pub childless : is_childless (x.tasks task) ≡ true
  pub finishing : Finishing m h x y task
  pub parents : y.parents ≡ x.parents
  pub unseen : Unseen m h x y

-- what an ended letter for child t does, which came along a pointer and stood at place p of the mail: the parent is there and loses the child;
-- the desk's pointer has a larger count and the letter follows it; the child is held where its parent is about to arrive
pub data Ending (m : Programs) (h : Histories) (x y : Reading) (p : ℕ) (along : Hint) (t : TaskId) : Type 0 where
  taken : y.tasks ≡ at_task x.tasks (parent_of m t) (without_child (x.tasks (parent_of m t)) t) → y.messages ≡ without x.messages p
      → y.parents ≡ x.parents → Ending m h x y p along t
  onward : along.moves < (x.parents (parent_of m t) along.processor.0).hint.moves → y.tasks ≡ x.tasks
      → y.messages ≡ without x.messages p ++ one (Terminated (x.parents (parent_of m t) along.processor.0).hint t)
      → y.parents ≡ x.parents → Ending m h x y p along t
  holds : Coming (x.tasks (parent_of m t)).processor.0 (x.tasks (parent_of m t)).moves along.processor.0
      (h (parent_of m t) (x.tasks (parent_of m t)).moves)
      → y.tasks ≡ x.tasks → y.messages ≡ without x.messages p
      → y.parents ≡ kept_for x (parent_of m t) along.processor.0 (holding_child (x.parents (parent_of m t) along.processor.0) t)
      → Ending m h x y p along t

-- an ended letter, at place p of the mail, from 0; its child is in the parent's set
pub record EndedTransition (m : Programs) (h : Histories) (x y : Reading) : Type 0 where
  pub p : ℕ
  pub along : Hint
  pub task : TaskId
  pub message : get_elem? x.messages p ≡ some (Terminated along task)
  pub number : within 2 (length m) task.0 ≡ true
  pub living : member task.0 (x.tasks (parent_of m task)).children ≡ true
  pub ending : Ending m h x y p along task
  pub unseen : Unseen m h x y

-- a mover letter for task t at desk d; the task is moving, and was sent here; it loses the children that are held here
pub record ArrivalTransition (m : Programs) (h : Histories) (x y : Reading) : Type 0 where
  pub p : ℕ
  pub at : ProcessorId
  pub task : TaskId
  pub message : get_elem? x.messages p ≡ some (Migration at task)
  pub number : within 1 (length m) task.0 ≡ true
  pub moving : is_in Moving (x.tasks task) ≡ true
  pub sent : at.0 ≡ h task (x.tasks task).moves
  pub tasks : y.tasks ≡ at_task x.tasks task (without_children (arrived (x.tasks task) at) (x.parents task at.0).held)
  pub parents : y.parents ≡ kept_for x task at.0 (arrival_parent at (x.tasks task).moves)
  pub messages : y.messages ≡ without x.messages p
  pub processors : y.processors ≡ x.processors
  pub views : (c : ChannelId) → 1 ≤ c.0 → c.0 ≤ 128 → Placing (view_of m h x c) (view_of m h y c)

-- a move of task t to another desk `to`: its history goes on, and the pointer of the desk that it leaves is set
pub record MoveTransition (m : Programs) (h h' : Histories) (x y : Reading) : Type 0 where
  pub task : TaskId
  pub to : ProcessorId
  pub number : within 1 (length m) task.0 ≡ true
  pub ready : is_in Ready (x.tasks task) ≡ true
  pub processor : within 1 x.processors to.0 ≡ true
  pub elsewhere : (x.tasks task).processor.0 ≢ to.0
  pub history : h' ≡ sent_to h task (suc (x.tasks task).moves) to
  pub tasks : y.tasks ≡ at_task x.tasks task (departed (x.tasks task))
  pub parents : y.parents
      ≡ kept_for x task (x.tasks task).processor.0
      (pointing (x.parents task (x.tasks task).processor.0) (hint to ((x.tasks task).moves + 1)))
  pub messages : y.messages ≡ x.messages ++ one (Migration to task)
  pub processors : y.processors ≡ x.processors
  pub views : (c : ChannelId) → 1 ≤ c.0 → c.0 ≤ 128 → Departing (view_of m h x c) (view_of m h' y c)

-- an accepted run step, and an accepted delivery
pub data RunTransition (m : Programs) (h : Histories) (x : Reading) : Histories → Reading → Received → Type 0 where
  transfers : {y : Reading} {received : Received} (e : Transfer) → ChannelTransition m h x y (transfer e) received → RunTransition m h x h y received
  owns : {y : Reading} → OwnTransition m h x y → RunTransition m h x h y None
  creates : {h' : Histories} {y : Reading} → CreateTransition m h h' x y → RunTransition m h x h' y None
  finishes : {y : Reading} → FinishTransition m h x y → RunTransition m h x h y None

pub data DeliverTransition (m : Programs) (h : Histories) (x y : Reading) : Received → Type 0 where
  delivers : {received : Received} (p : ℕ) (a : Delivery) → ChannelTransition m h x y (delivery p a) received → DeliverTransition m h x y received
  ends : EndedTransition m h x y → DeliverTransition m h x y None
  arrives : ArrivalTransition m h x y → DeliverTransition m h x y None

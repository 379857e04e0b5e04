-- When a rig is not refused by 9: "a number in the rig outside the limits above (desks and tasks are the rig's own; 0 stands only where this
-- paper names it), an unborn or moving task not as said above, a place 0 or past the last instruction (of a done task, more than one past), a
-- sending or receiving task that has executed no instruction or whose last executed one is of another kind, or a plan in the rig that 2 to 6
-- would refuse"; "which now everywhere also covers a stored set that differs from the rig and a last choice above T". Every table entry is looked
-- at, every letter in use, tasks 1 to T, and the sets and last choices of all six desks.
use Rattle.std.specs.Prelude.{Bool, false, not, ◌&&◌, ◌||◌, List, ℕ, suc, ◌+◌, ◌^◌, length, get_or, eqb, ltb, leb}
use Rattle.base.specs.Choice.{pick, within}
use Rattle.base.specs.Range.{below, up_to}
use Rattle.base.specs.Lists.{every, every_pair}
use Rattle.base.specs.Sets.{set_of}
use Rattle.plan.specs.Answers.{is_accepted}
use Rattle.plan.specs.Kinds.{op_send, op_receive}
use Rattle.plan.specs.Words.{word_numbers}
use Rattle.plan.specs.Programs.{Program}
use Rattle.plan.specs.Refusals.{plan_answer}
use Rattle.rules.specs.declared.task.Task.{Task}
use Rattle.rules.specs.declared.task.TaskState.TheVariants.{Unborn, Sending, Receiving, Moving, Done}
use Rattle.rules.specs.declared.channel.Hint.{Hint}
use Rattle.rules.specs.declared.channel.Offer.{Offer}
use Rattle.rules.specs.declared.message.Message.{Message}
use Rattle.rules.specs.declared.message.Message.TheVariants.{Empty, Offered, Advert, ReadyToReceive, Data, Terminated, Migration}
use Rattle.rules.specs.declared.message.Network.{Network}
use Rattle.rules.specs.declared.system.Tables.{Tables}
use Rattle.rules.specs.declared.system.Channels.{Channels}
use Rattle.rules.specs.declared.system.Parents.{Parents}
use Rattle.rules.specs.declared.system.TaskTable.{TaskTable}
use Rattle.rules.specs.declared.system.System.{System}
use Rattle.rules.specs.Numbers.{task_id, processor_id, is_none, processor_ok, task_number_ok, channel_number_ok, network_size, most_moves}
use Rattle.rules.specs.Tasks.{is_in}
use Rattle.rules.specs.Cells.{hint, is_unknown, offer}
use Rattle.rules.specs.Networks.{messages}
use Rattle.rules.specs.Places.{last_in}
use Rattle.rules.specs.Systems.{task_in, task_at, is_ready_at, task_program, meaning}

-- a move count of a task that was born; "Offers are numbered 1 to 64"
abbrev pub moves_ok : ℕ → Bool
moves_ok k = within 1 most_moves k

abbrev pub known_ok : ℕ → Hint → Bool
known_ok n h = processor_ok n h.processor && moves_ok h.moves

abbrev pub made_ok : ℕ → Offer → Bool
made_ok n o = processor_ok n o.processor && within 1 64 o.number

-- a pointer or none, an offer or none
abbrev pub hint_ok : ℕ → Hint → Bool
hint_ok n h = pick (is_unknown h) (eqb h.moves 0) (known_ok n h)

abbrev pub offer_ok : ℕ → Offer → Bool
offer_ok n o = pick (is_none o.processor) (eqb o.number 0) (made_ok n o)

unfoldable pub tables_ok : ℕ → Tables → Bool
tables_ok n x =
    every_pair (λ d k. hint_ok n (hint (processor_id d) k)) x.hintprocessors x.hintmoves
    && (every_pair (λ d w. offer_ok n (offer (processor_id d) w)) x.heldprocessors x.heldnumbers
    && every (λ d. leb d n) x.notes)

-- "the number called (0 to 64)"
unfoldable pub channel_entries_ok : ℕ → Channels → Bool
channel_entries_ok n x =
    every (λ w. leb w 64) x.granted
    && (every_pair (λ d w. offer_ok n (offer (processor_id d) w)) x.carriedprocessors x.carriednumbers
    && every_pair (λ d k. hint_ok n (hint (processor_id d) k)) x.travellingprocessors x.travellingmoves)

-- a letter in a rig of n desks and m tasks
unfoldable pub message_ok : ℕ → ℕ → Message → Bool
message_ok n m Empty = false
message_ok n m (Offered c o h) = channel_number_ok c && (made_ok n o && known_ok n h)
message_ok n m (Advert c d from) = channel_number_ok c && (processor_ok n d && processor_ok n from)
message_ok n m (ReadyToReceive c d h) = channel_number_ok c && (processor_ok n d && known_ok n h)
message_ok n m (Data c d w) = channel_number_ok c && processor_ok n d
message_ok n m (Terminated h t) = known_ok n h && task_number_ok m t
message_ok n m (Migration d t) = processor_ok n d && task_number_ok m t

-- the mail
unfoldable pub network_ok : ℕ → ℕ → Network → Bool
network_ok n m x = leb x.used network_size && every (message_ok n m) (messages x)

-- "an unborn .. task not as said above": the record `unborn`, with any children; "an unborn task with one", a mark, "is refused by 9"
unfoldable pub unborn_ok : Task → Bool
unborn_ok x =
    is_none x.processor
    && (eqb x.pc 1 && (every (eqb 0) (word_numbers x.word) && (not x.overflow && eqb x.moves 0)))

-- "a .. moving task not as said above"; any other is at a desk of the rig
abbrev pub where_ok : ℕ → Task → Bool
where_ok n x = pick (is_in Moving x) (is_none x.processor) (processor_ok n x.processor)

-- "a place 0 or past the last instruction (of a done task, more than one past)", of a program of `size` instructions
abbrev pub place_ok : ℕ → Task → Bool
place_ok size x = within 1 (pick (is_in Done x) (size + 1) size) x.pc

-- "a sending or receiving task that has executed no instruction or whose last executed one is of another kind", in the program g; where
-- none was executed, the last one has kind 0
abbrev pub last_ok : Program → Task → Bool
last_ok g x = (not (is_in Sending x) || eqb (last_in g x).opcode op_send) && (not (is_in Receiving x) || eqb (last_in g x).opcode op_receive)

unfoldable pub born_ok : ℕ → Program → Task → Bool
born_ok n g x = moves_ok x.moves && (where_ok n x && (place_ok (length g) x && last_ok g x))

-- a task in a rig of n desks and m tasks; its living children are tasks of the rig
unfoldable pub task_ok : ℕ → ℕ → Program → Task → Bool
task_ok n m g x = ltb x.children (2 ^ m) && pick (is_in Unborn x) (unborn_ok x) (born_ok n g x)

-- the child's own pointer, of task t: "both 0 for an unborn task, and always for task 1"; "0 stands only where this paper names it"
unfoldable pub origin_ok : ℕ → ℕ → Task → Bool
origin_ok n t x = pick (is_in Unborn x || eqb t 1) (is_unknown x.origin && eqb x.origin.moves 0) (known_ok n x.origin)

-- pointers to parents, and held children, which are tasks of the rig
unfoldable pub parents_ok : ℕ → ℕ → Parents → Bool
parents_ok n m x =
    every_pair (λ d k. hint_ok n (hint (processor_id d) k)) x.hintprocessors x.hintmoves
    && every (λ s. ltb s (2 ^ m)) x.held

-- "a stored set that differs from the rig": of each of six desks, in a rig of m tasks
unfoldable pub ready_ok : ℕ → TaskTable → Bool
ready_ok m ts = below 6 (λ k. eqb (get_or ts.ready k 0) (set_of m (λ t. is_ready_at (processor_id (suc k)) (task_in ts (task_id t)))))

-- "and a last choice above T"
unfoldable pub chosen_ok : ℕ → List ℕ → Bool
chosen_ok m x = every (λ t. leb t m) x

unfoldable pub system_ok : System → Bool
system_ok r =
    within 1 6 r.processors
    && (is_accepted (plan_answer (meaning r))
    && (up_to r.plan.tasks (λ t. task_ok r.processors r.plan.tasks (task_program r (task_id t)) (task_at r (task_id t)))
    && (up_to r.plan.tasks (λ t. origin_ok r.processors t (task_at r (task_id t)))
    && (tables_ok r.processors r.tables
    && (channel_entries_ok r.processors r.channels
    && (parents_ok r.processors r.plan.tasks r.parents
    && (ready_ok r.plan.tasks r.tasks
    && (chosen_ok r.plan.tasks r.chosen
    && network_ok r.processors r.plan.tasks r.network))))))))

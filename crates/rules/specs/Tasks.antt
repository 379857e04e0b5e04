-- One task: its states, and what birth, departure, arrival and the smaller changes make of its record.
use Rattle.std.specs.Prelude.{Bool, false, ◌&&◌, ◌||◌, ℕ, ◌+◌, eqb}
use Rattle.base.specs.Choice.{pick}
use Rattle.base.specs.Sets.{inserted, removed, removed_all}
use Rattle.plan.specs.declared.TaskId.{TaskId}
use Rattle.plan.specs.declared.ProcessorId.{ProcessorId}
use Rattle.plan.specs.declared.Word.{Word}
use Rattle.plan.specs.Words.{zero_word}
use Rattle.rules.specs.declared.task.TaskState.{TaskState}
use Rattle.rules.specs.declared.task.TaskState.TheVariants.{Unborn, Ready, Waiting, Sending, Receiving, Moving, Done}
use Rattle.rules.specs.declared.task.Task.{Task}
use Rattle.rules.specs.declared.channel.Hint.{Hint}
use Rattle.rules.specs.Numbers.{no_processor, same_processor}
use Rattle.rules.specs.Hints.{unknown}

-- "a state (unborn, ready, waiting, sending, receiving, moving, done)", counted so that they can be told apart
abbrev pub state_number : TaskState → ℕ
state_number Unborn = 0
state_number Ready = 1
state_number Waiting = 2
state_number Sending = 3
state_number Receiving = 4
state_number Moving = 5
state_number Done = 6

abbrev pub is_in : TaskState → Task → Bool
is_in s x = eqb (state_number x.state) (state_number s)

-- the task is at desk d
abbrev pub is_at : ProcessorId → Task → Bool
is_at d x = same_processor x.processor d

-- the record with one field changed
abbrev pub with_state : Task → TaskState → Task
with_state x s = record { state = s; processor = x.processor; pc = x.pc; origin = x.origin; word = x.word; overflow = x.overflow; moves = x.moves; children = x.children }

abbrev pub with_processor : Task → ProcessorId → Task
with_processor x d = record { state = x.state; processor = d; pc = x.pc; origin = x.origin; word = x.word; overflow = x.overflow; moves = x.moves; children = x.children }

abbrev pub with_pc : Task → ℕ → Task
with_pc x n = record { state = x.state; processor = x.processor; pc = n; origin = x.origin; word = x.word; overflow = x.overflow; moves = x.moves; children = x.children }

abbrev pub with_word : Task → Word → Task
with_word x w = record { state = x.state; processor = x.processor; pc = x.pc; origin = x.origin; word = w; overflow = x.overflow; moves = x.moves; children = x.children }

abbrev pub with_overflow : Task → Bool → Task
with_overflow x b = record { state = x.state; processor = x.processor; pc = x.pc; origin = x.origin; word = x.word; overflow = b; moves = x.moves; children = x.children }

abbrev pub with_moves : Task → ℕ → Task
with_moves x n = record { state = x.state; processor = x.processor; pc = x.pc; origin = x.origin; word = x.word; overflow = x.overflow; moves = n; children = x.children }

abbrev pub with_children : Task → ℕ → Task
with_children x s = record { state = x.state; processor = x.processor; pc = x.pc; origin = x.origin; word = x.word; overflow = x.overflow; moves = x.moves; children = s }

-- what stands for a task where there is none: it is nowhere
abbrev pub no_task : Task
no_task = record { state = Unborn; processor = no_processor; pc = 0; origin = unknown; word = zero_word; overflow = false; moves = 0; children = 0 }

-- "An unborn task has desk 0, place 1, word 0, count 0"; its own pointer is "both 0 for an unborn task"
abbrev pub unborn : Task
unborn = record { state = Unborn; processor = no_processor; pc = 1; origin = unknown; word = zero_word; overflow = false; moves = 0; children = 0 }

-- birth: "ready at d, .. with place 1 and no children"; "a word (0 at birth)", "a move count (1 at birth)"; "the child's own" pointer, "which it
-- keeps unchanged from its birth"
abbrev pub born : ProcessorId → Hint → Task
born d own = record { state = Ready; processor = d; pc = 1; origin = own; word = zero_word; overflow = false; moves = 1; children = 0 }

-- move: "Its count goes up by one"; "a moving one has desk 0"
abbrev pub departed : Task → Task
departed x = with_moves (with_processor (with_state x Moving) no_processor) (x.moves + 1)

-- arrival: "the task is ready here"
abbrev pub arrived : Task → ProcessorId → Task
arrived x d = with_processor (with_state x Ready) d

-- "An accepted instruction is executed and the place goes on by one, even if the task then waits."
abbrev pub advanced : Task → Task
advanced x = with_pc x (x.pc + 1)

abbrev pub readied : Task → Task
readied x = with_state x Ready

-- "the receiver takes it and is ready"
abbrev pub taking : Task → Word → Task
taking x w = with_word (readied x) w

-- "A task that met this, and no other, carries a mark until done and after": the task after a sum that went over the top, or did not
abbrev pub marked : Task → Bool → Task
marked x b = with_overflow x (x.overflow || b)

-- "joins the living children"
abbrev pub with_child : Task → TaskId → Task
with_child x t = with_children x (inserted t.0 x.children)

abbrev pub is_childless : Task → Bool
is_childless x = eqb x.children 0

-- "It is ready again when the set is empty."
unfoldable pub woken : Task → Task
woken x = pick (is_in Waiting x && is_childless x) (readied x) x

-- "loses the child from its set", "the child leaves the set"
abbrev pub without_child : Task → TaskId → Task
without_child x t = woken (with_children x (removed t.0 x.children))

-- "when the parent arrives there, all of them leave its set": a task that is ready, and the children held for it
abbrev pub without_children : Task → ℕ → Task
without_children x held = with_children x (removed_all 64 held x.children)

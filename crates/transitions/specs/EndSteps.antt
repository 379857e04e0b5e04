-- What a transfer on a channel does to the task at one of its ends.
use Rattle.std.specs.Prelude.{◌≡◌, true, ℕ, ◌≤◌, length}
use Rattle.plan.specs.declared.ChannelId.{ChannelId}
use Rattle.plan.specs.declared.Word.{Word}
use Rattle.plan.specs.Kinds.{is_use}
use Rattle.plan.specs.Programs.{Program}
use Rattle.rules.specs.declared.task.TaskState.{TaskState}
use Rattle.rules.specs.declared.task.TaskState.TheVariants.{Ready}
use Rattle.rules.specs.declared.task.Task.{Task}
use Rattle.rules.specs.Tasks.{is_in, with_state, with_word, advanced, readied}
use Rattle.rules.specs.Places.{next_in, is_on}

-- a ready task x with program g, about to execute an instruction of kind k on channel c
pub record AtUse (g : Program) (k : ℕ) (c : ChannelId) (x : Task) : Type 0 where
  pub ready : is_in Ready x ≡ true
  pub next : is_use k c.0 (next_in g x) ≡ true
  pub low : 1 ≤ x.pc
  pub high : x.pc ≤ length g

-- kind k is send or receive, and s the state sending or receiving. The numbers are how many instructions of this kind it completes, and its word then
pub data EndStep (g : Program) (k : ℕ) (s : TaskState) (c : ChannelId) (x : Task) : ℕ → Word → Task → Type 0 where
  -- nothing happens to it
  stays : EndStep g k s c x 0 x.word x
  -- it executes the instruction and is then sending, or receiving
  begins : AtUse g k c x → EndStep g k s c x 0 x.word (advanced (with_state x s))
  -- it executes the instruction, and the word passes
  passes : (w : Word) → AtUse g k c x → EndStep g k s c x 1 w (advanced (with_word (readied x) w))
  -- it was sending, or receiving, and is ready again
  ends : (w : Word) → is_on s g c x ≡ true → EndStep g k s c x 1 w (with_word (readied x) w)

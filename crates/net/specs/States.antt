-- The state of the net.
use Rattle.std.specs.Prelude.{Bool, false, List, [], ℕ}
use Rattle.base.specs.Updates.{updated}
use Rattle.plan.specs.declared.TaskId.{TaskId}
use Rattle.plan.specs.declared.ChannelId.{ChannelId}
use Rattle.plan.specs.declared.Word.{Word}
use Rattle.plan.specs.Numbers.{task_id, same_task}
use Rattle.plan.specs.Words.{zero_word}

pub record Net : Type 0 where
  -- which tasks are born
  pub born : TaskId → Bool
  -- how many of its instructions a task has completed
  pub completed : TaskId → ℕ
  pub word : TaskId → Word
  -- which tasks are marked, by a sum over the top
  pub overflow : TaskId → Bool
  -- the words that have passed a channel, in order
  pub passed : ChannelId → List Word

-- task 1 is born, and nothing is done
unfoldable pub start_net : Net
start_net = record { born = same_task (task_id 1); completed = λ t. 0; word = λ t. zero_word; overflow = λ t. false; passed = λ c. [] }

-- what is kept for each task, or for each channel, with that of one changed
abbrev pub at_task : {A : Type 0} → (TaskId → A) → TaskId → A → TaskId → A
at_task f t a = updated (λ (u : TaskId). u.0) f t a

abbrev pub at_channel : {A : Type 0} → (ChannelId → A) → ChannelId → A → ChannelId → A
at_channel f c a = updated (λ (d : ChannelId). d.0) f c a

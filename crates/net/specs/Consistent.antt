-- What holds of each state that a run from the start of an accepted plan reaches.
use Rattle.std.specs.Prelude.{◌≡◌, Bool, true, false, ◌≤◌, length, take}
use Rattle.base.specs.Choice.{within}
use Rattle.base.specs.Lists.{any}
use Rattle.plan.specs.declared.TaskId.{TaskId}
use Rattle.plan.specs.Numbers.{task_id}
use Rattle.plan.specs.Words.{zero_word}
use Rattle.plan.specs.Kinds.{op_create, is_use}
use Rattle.plan.specs.Programs.{Programs}
use Rattle.plan.specs.Users.{parent_of}
use Rattle.net.specs.States.{Net}
use Rattle.net.specs.Guards.{program_for}

-- the parent of task u has completed the instruction that creates it
unfoldable pub is_created : Programs → Net → TaskId → Bool
is_created m s u = any (is_use op_create u.0) (take (s.completed (parent_of m u)) (program_for m (parent_of m u)))

pub record Consistent (m : Programs) (s : Net) : Type 0 where
  -- task 1 is born, a task 2 .. T exactly when it is created, and nobody else
  pub root : s.born (task_id 1) ≡ true
  pub child : (u : TaskId) → within 2 (length m) u.0 ≡ true → s.born u ≡ is_created m s u
  pub nobody : (u : TaskId) → within 1 (length m) u.0 ≡ false → s.born u ≡ false
  -- who is not born has done nothing, and nobody has done more than its program
  pub idle : (t : TaskId) → s.born t ≡ false → s.completed t ≡ 0
  pub wordless : (t : TaskId) → s.born t ≡ false → s.word t ≡ zero_word
  pub unmarked : (t : TaskId) → s.born t ≡ false → s.overflow t ≡ false
  pub sized : (t : TaskId) → s.completed t ≤ length (program_for m t)

-- What is found of a live rig: a task, and the counts of its panel.
use Rattle.std.specs.Prelude.{◌≡◌, true, List, ℕ, ◌+◌, ◌*◌}
use Rattle.base.specs.Choice.{unless}
use Rattle.plan.specs.declared.TaskId.{TaskId}
use Rattle.rules.specs.Numbers.{task_number_ok}
use Rattle.rules.specs.Panel.{panel}
use Rattle.rules.specs.Steps.{quiescent}
use Rattle.rules.specs.Systems.{task_at}
use Rattle.board.specs.packing.Packed.{bit}
use Rattle.image.specs.Image.{rig_of}
use Rattle.live_rig.specs.declared.found.Found.{Found}
use Rattle.live_rig.specs.declared.counts.Counted.{Counted}
use Rattle.live_rig.specs.Open.{sound}

-- Rest, of bytes of a rig's size
unfoldable pub rest_on : List ℕ → ℕ
rest_on b = unless (sound b) 9 (256 * bit (quiescent (rig_of b)) + 65536 * (rig_of b).network.used)

-- 9, then 10; 0 where there is such a task
abbrev pub found_number : List ℕ → TaskId → ℕ
found_number b t = unless (sound b) 9 (unless (task_number_ok (rig_of b).plan.tasks t) 10 0)

-- task t of the rig in bytes b
pub record Finds (b : List ℕ) (t : TaskId) (f : Found) : Type 0 where
  pub number_is : f.number ≡ found_number b t
  pub task_is : found_number b t ≡ 0 → f.task ≡ task_at (rig_of b) t

-- the counts of the rig in bytes b, where 9 does not refuse it
pub record Counts (b : List ℕ) (q : Counted) : Type 0 where
  pub ok_is : q.ok ≡ sound b
  pub counts_are : sound b ≡ true → q.counts ≡ panel (rig_of b)

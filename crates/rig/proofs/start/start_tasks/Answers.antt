-- `start_tasks`.
use mathlib.Core.Path.{◌≡◌, refl, sym}
use lib.ListN.{set, replicate}
use Rattle.base.specs.Sets.{member, inserted}
use Rattle.rules.specs.Numbers.{processor_id}
use Rattle.rules.specs.Hints.{unknown}
use Rattle.rules.specs.Tasks.{unborn, born}
use Rattle.rules.specs.Systems.{task_in, ready_then, ready_sets, task_stored}
use Rattle.rig.specs.start.Parts.{start_tasks}
use borrow.Author.Rules.{rules}
use Rattle.rig.proofs.start.start_tasks.Goals as goal

-- the first set has task 1 alone
one_ready : start_tasks ≡ record { records = set (replicate 64 unborn) 0 (born (processor_id 1) unknown); ready = set (replicate 6 0) 0 1 }
unfolding task_stored task_in ready_sets ready_then inserted member
one_ready = refl

pub returns : goal.returns
returns c = rw (c.first_task.ensures, c.unborn-records.ensures) (sym one_ready)

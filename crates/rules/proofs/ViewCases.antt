-- Cases of the panel and of views of a task.
use mathlib.Core.Path.{◌≡◌, refl}
use mathlib.Core.List.{[], ◌∷◌}
use lib.ListN.{length, replicate, drop}
use Rattle.std.specs.Prelude.{Ok, Err}
use Rattle.rules.specs.declared.step.StepRefusal.TheVariants.{BadSystem, NoTask}
use Rattle.rules.specs.declared.system.System.{System}
use Rattle.rules.specs.declared.task.TaskState.TheVariants.{Ready}
use Rattle.rules.specs.Numbers.{task_id}
use Rattle.rules.specs.Systems.{with_chosen}
use Rattle.rules.specs.Steps.{ruled_steps, move_step}
use Rattle.rules.specs.Panel.{panel_steps, panel}
use Rattle.rules.specs.Views.{tablet_of, driver_of}
use Rattle.rules.proofs.Scripts.{create, finish, set, run, start_on}
use Rattle.rules.proofs.Sites.{processor, seven}
use Rattle.rules.proofs.Evaluated.{evaluated}

-- "The counts together are T + 256 + T × n."; moves are counted task by task
panel_length : length (panel_steps 3 2) ≡ 265
unfolding evaluated
panel_length = refl

panel_moves : drop 258 (panel_steps 2 2) ≡ move_step 1 1 ∷ move_step 1 2 ∷ move_step 2 1 ∷ move_step 2 2 ∷ []
unfolding evaluated
panel_moves = refl

-- a rig of seven desks
panel_outside : panel (start_on 7 ((finish ∷ []) ∷ [])) ≡ replicate 27 0
unfolding evaluated
panel_outside = refl

-- task 1 of two has the word 7 and one living child
abbrev shown : System
shown = (ruled_steps (start_on 1 ((create 2 ∷ set 7 ∷ finish ∷ []) ∷ (finish ∷ []) ∷ [])) (run 1 ∷ run 1 ∷ [])).system

tablet_shown : tablet_of shown (task_id 1) ≡ Ok (record { task = task_id 1; state = Ready; processor = processor 1; pc = 3 })
unfolding evaluated
tablet_shown = refl

driver_shown : driver_of shown (task_id 1)
    ≡ Ok (record { tablet = record { task = task_id 1; state = Ready; processor = processor 1; pc = 3 }; word = seven; children = 2; living = 1 })
unfolding evaluated
driver_shown = refl

-- "either view refuses by 9, then by 10"
tablet_ten : tablet_of shown (task_id 3) ≡ Err NoTask
unfolding evaluated
tablet_ten = refl

driver_ten : driver_of shown (task_id 0) ≡ Err NoTask
unfolding evaluated
driver_ten = refl

tablet_nine : tablet_of (with_chosen shown (3 ∷ 0 ∷ 0 ∷ 0 ∷ 0 ∷ 0 ∷ [])) (task_id 3) ≡ Err BadSystem
unfolding evaluated
tablet_nine = refl

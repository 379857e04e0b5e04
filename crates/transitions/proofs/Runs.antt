-- What an accepted run step says of the task that runs; and a step that posts nothing.
use mathlib.Core.Path.{◌≡◌, refl}
use mathlib.Core.Bool.{true}
use Prim.Native.Nat.{◌+◌, ◌-◌, ◌≤◌}
use native.Mathlib.Omega.{arith}
use lib.ListN.{length}
use borrow.Author.Tests.{leb-true}
use Rattle.std.specs.Prelude.{Ok}
use Rattle.base.proofs.Tests.{within_high}
use Rattle.plan.specs.declared.TaskId.{TaskId}
use Rattle.plan.specs.Programs.{programs}
use Rattle.plan.specs.Refusals.{instruction_ok}
use Rattle.plan.proofs.Parts.{tasks_of_lem}
use Rattle.plan_laws.proofs.Programs.{instruction_fine}
use Rattle.rules.specs.declared.task.TaskState.TheVariants.{Ready}
use Rattle.rules.specs.declared.system.System.{System}
use Rattle.rules.specs.Networks.{enqueued_all, messages_of}
use Rattle.rules.specs.Systems.{task_at, task_program, meaning}
use Rattle.rules.specs.Places.{next_in}
use Rattle.rules.specs.Effects.{completed, changed}
use Rattle.rules.specs.Runs.{fits, next_of, ran, run_answer}
use Rattle.rules.specs.Sound.{system_ok}
use Rattle.rules_laws.specs.Shapes.{Shaped}
use Rattle.rules_sound.specs.Settled.{Settled}
use Rattle.rules_sound.proofs.Answers.{run_passed}
use Rattle.rules_sound.proofs.Frames.{in_plan}
use Rattle.rules_sound.proofs.Settled.{settled}
use Rattle.transitions.specs.Readings.{reading}
use Rattle.transitions.specs.Transitions.{Runs}
use Rattle.transitions.proofs.Frames.{IsTask}
use Rattle.transitions.proofs.Rigs.{is_sound, is_task}

-- no letters join the mail
pub completed_changed : (q : System) → completed (changed q) ≡ q
unfolding completed enqueued_all messages_of
completed_changed q = refl

module _ (r : System) (shaped : Shaped r) (ok : system_ok r ≡ true) where
  module _ (t : TaskId) (a : run_answer r t ≡ Ok tt) where
    pub run_is_task : IsTask t
    run_is_task = is_task r shaped ok t (run_passed r t a).task

    high : t.0 ≤ r.plan.tasks
    high = within_high 1 r.plan.tasks t.0 (run_passed r t a).task

    -- it stands at a desk, at an instruction of the plan
    pub run_settled : Settled r.processors r.plan.tasks (length (task_program r t)) (task_at r t)
    run_settled = settled _ _ _ (task_at r t) Ready refl (run_passed r t a).ready ((is_sound r shaped ok).rig.tasks t run_is_task.low high)

    pub run_instruction : instruction_ok r.plan.tasks (next_of r t) ≡ true
    unfolding next_in
    run_instruction =
        let low = run_settled.place in
        let few = run_settled.place_few in
        let s = (is_sound r shaped ok).frame in
        let there = in_plan _ _ s t run_is_task.low high in
        rw (tasks_of_lem r.plan) at (instruction_fine (programs r.plan) s.plan (t.0 - 1) there ((task_at r t).pc - 1) (omega arith))

    -- what it posts fits in the mail
    pub run_fits : r.network.used + length (messages_of r.processors (ran r t).posting) ≤ 256
    unfolding fits
    run_fits = leb-true _ _ (run_passed r t a).fitting

    -- it runs, as it is read
    pub runs_of : Runs (meaning r) (reading r) t (next_of r t)
    unfolding reading
    runs_of =
        record {
          number = rw (tasks_of_lem r.plan) (run_passed r t a).task;
          ready = (run_passed r t a).ready;
          low = run_settled.place;
          high = run_settled.place_few;
          next = refl;
        }

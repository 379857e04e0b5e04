-- A task is marked exactly when an accepted run of it has added over the top.
use mathlib.Core.Path.{◌≡◌, refl, sym, ap, ◌∙◌}
use mathlib.Core.Bool.{false, ◌||◌, and-false, or-false, or_assoc}
use mathlib.Core.List.{List, [], ◌∷◌}
use Prim.Native.Nat.{ℕ}
use Rattle.std.specs.Prelude.{Ok}
use Rattle.plan.specs.declared.Plan.{Plan}
use Rattle.plan.specs.declared.TaskId.{TaskId}
use Rattle.plan.specs.declared.ChannelId.{ChannelId}
use Rattle.plan.specs.declared.Word.{Word}
use Rattle.plan.specs.Programs.{programs}
use Rattle.plan.specs.Refusals.{plan_answer}
use Rattle.rules.specs.declared.task.Task.{Task}
use Rattle.rules.specs.declared.step.Step.{Step}
use Rattle.rules.specs.declared.system.System.{System}
use Rattle.rules.specs.Answers.{is_accepted}
use Rattle.rules.specs.Systems.{task_at}
use Rattle.rules.specs.Starts.{started}
use Rattle.rules.specs.Steps.{step, steps_by, steps}
use Rattle.transitions.specs.Readings.{reading}
use Rattle.invariant.proofs.StartViews.{read_started, start_cases}
use Rattle.invariant.proofs.Next.{Kept, next}
use Rattle.claim.specs.Overflows.{overflows, has_overflowed, MarkedExactly}
use Rattle.claim.proofs.Lists.{step_either, left, kept_step}
use Rattle.claim.proofs.Whole.{start_kept}

module _ (p : Plan) (a : plan_answer (programs p) ≡ Ok tt) where
  -- after a step of a rig that a run reaches, accepted or not
  step_marks : {r : System} {w : ChannelId → List Word} → Kept p r w → (s : Step) (t : TaskId)
      → (task_at (step r s).system t).overflow ≡ (task_at r t).overflow || overflows t r s
  step_marks {r} h s t =
      step_either r s
      (λ e. simp (left r s e, e, and-false, or-false))
      (λ e. rw (ap is_accepted e) ((next p a h s e).marks t))

  -- after a list of them
  steps_marks : {r : System} {w : ChannelId → List Word} → Kept p r w → (ss : List Step) (t : TaskId)
      → (task_at (steps r ss).system t).overflow ≡ (task_at r t).overflow || has_overflowed t r ss
  unfolding steps_by has_overflowed
  steps_marks {r} h [] t = sym (or-false (task_at r t).overflow)
  steps_marks {r} h (s ∷ ss) t =
      let later = has_overflowed t (step r s).system ss in
      steps_marks {r = (step r s).system} (kept_step p a h s) ss t ∙ ap (◌|| later) (step_marks h s t) ∙ or_assoc (task_at r t).overflow (overflows t r s) later

-- at the start nobody is
start_read : (n : ℕ) (p : Plan) (t : TaskId) → ((reading (started n p)).tasks t).overflow ≡ false
start_read n p t = rw (read_started n p) (start_cases n p (λ (x : Task). x.overflow ≡ false) t (λ e. refl) (λ e. refl) (λ e. refl))

start_unmarked : (n : ℕ) (p : Plan) (t : TaskId) → (task_at (started n p) t).overflow ≡ false
unfolding reading
start_unmarked n p t = start_read n p t

pub marked_exactly : MarkedExactly
marked_exactly n p ss some few a t =
    steps_marks p a (start_kept n p some few a) ss t ∙ ap (◌|| has_overflowed t (started n p) ss) (start_unmarked n p t)

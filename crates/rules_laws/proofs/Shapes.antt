-- The arrays of a rig have their sizes from its start on, and its plan and its number of desks stay; so do the last choices.
use mathlib.Core.Path.{◌≡◌, refl, ◌∙◌}
use mathlib.Core.List.{List}
use Prim.Native.Nat.{ℕ}
use native.Mathlib.Omega.{arith}
use lib.ListN.{length}
use Rattle.plan.specs.declared.Plan.{Plan}
use Rattle.plan.specs.declared.TaskId.{TaskId}
use Rattle.plan.specs.declared.ProcessorId.{ProcessorId}
use Rattle.rules.specs.declared.channel.Hint.{Hint}
use Rattle.rules.specs.declared.message.Network.{Network}
use Rattle.rules.specs.declared.step.Step.{Step}
use Rattle.rules.specs.declared.system.System.{System}
use Rattle.rules.specs.Numbers.{task_id, processor_id}
use Rattle.rules.specs.Hints.{unknown}
use Rattle.rules.specs.Systems.{with_network}
use Rattle.rules.specs.Starts.{birth, blank, started}
use Rattle.rules.specs.Steps.{step, steps}
use Rattle.rules_laws.specs.Shapes.{Shaped}
use Rattle.rules_laws.proofs.TaskAt.{with_task_processors, with_task_plan, with_task_chosen, with_task_shaped}
use Rattle.rules_laws.proofs.CellAt.{with_cell_processors, with_cell_plan, with_cell_chosen, with_cell_shaped}
use Rattle.rules_laws.proofs.ParentAt.{with_parent_processors, with_parent_plan, with_parent_chosen, with_parent_shaped}
use Rattle.rules_laws.proofs.Messages.{enqueued_all_size, dequeued_size}
use Rattle.rules_laws.proofs.Changes.{Kept, written, birth_keeps, step_keeps, steps_keep}

-- another mail of the same size
pub with_network_shaped : (r : System) (n : Network) → Shaped r → length n.slots ≡ 256 → Shaped (with_network r n)
with_network_shaped r n s h = search

pub shaped_kept : Kept Shaped
shaped_kept =
    record {
      task = with_task_shaped;
      cell = with_cell_shaped;
      parent = with_parent_shaped;
      join = λ q ms s. with_network_shaped q _ s (enqueued_all_size q.network ms ∙ s.slots);
      leave = λ q p some there few s. with_network_shaped q _ s (dequeued_size q.network p some there (omega (arith, s.slots)) ∙ s.slots);
    }

-- the start
pub blank_shaped : (n : ℕ) (p : Plan) → Shaped (blank n p)
unfolding blank
blank_shaped n p = search

pub started_shaped : (n : ℕ) (p : Plan) → Shaped (started n p)
unfolding started
started_shaped n p = birth_keeps Shaped (written shaped_kept) (blank n p) (task_id 1) (processor_id 1) unknown (blank_shaped n p)

-- steps
pub step_shaped : (r : System) (s : Step) → Shaped r → Shaped (step r s).system
step_shaped = step_keeps Shaped shaped_kept

pub steps_shaped : (r : System) (ss : List Step) → Shaped r → Shaped (steps r ss).system
steps_shaped = steps_keep Shaped shaped_kept

module _ (r : System) where
  plan_kept : Kept (λ q. q.plan ≡ r.plan)
  plan_kept =
      record {
        task = λ q t x h. with_task_plan q t x ∙ h;
        cell = λ q d c x h. with_cell_plan q d c x ∙ h;
        parent = λ q d t e h. with_parent_plan q d t e ∙ h;
        join = λ q ms h. h;
        leave = λ q p some there few h. h;
      }

  processors_kept : Kept (λ q. q.processors ≡ r.processors)
  processors_kept =
      record {
        task = λ q t x h. with_task_processors q t x ∙ h;
        cell = λ q d c x h. with_cell_processors q d c x ∙ h;
        parent = λ q d t e h. with_parent_processors q d t e ∙ h;
        join = λ q ms h. h;
        leave = λ q p some there few h. h;
      }

  chosen_kept : Kept (λ q. q.chosen ≡ r.chosen)
  chosen_kept =
      record {
        task = λ q t x h. with_task_chosen q t x ∙ h;
        cell = λ q d c x h. with_cell_chosen q d c x ∙ h;
        parent = λ q d t e h. with_parent_chosen q d t e ∙ h;
        join = λ q ms h. h;
        leave = λ q p some there few h. h;
      }

  pub birth_plan : (t : TaskId) (d : ProcessorId) (own : Hint) → (birth r t d own).plan ≡ r.plan
  birth_plan t d own = birth_keeps _ (written plan_kept) r t d own refl

  pub birth_processors : (t : TaskId) (d : ProcessorId) (own : Hint) → (birth r t d own).processors ≡ r.processors
  birth_processors t d own = birth_keeps _ (written processors_kept) r t d own refl

  pub step_plan : (s : Step) → (step r s).system.plan ≡ r.plan
  step_plan s = step_keeps _ plan_kept r s refl

  pub step_processors : (s : Step) → (step r s).system.processors ≡ r.processors
  step_processors s = step_keeps _ processors_kept r s refl

  pub step_chosen : (s : Step) → (step r s).system.chosen ≡ r.chosen
  step_chosen s = step_keeps _ chosen_kept r s refl

  pub steps_plan : (ss : List Step) → (steps r ss).system.plan ≡ r.plan
  steps_plan ss = steps_keep _ plan_kept r ss refl

  pub steps_chosen : (ss : List Step) → (steps r ss).system.chosen ≡ r.chosen
  steps_chosen ss = steps_keep _ chosen_kept r ss refl

  pub steps_processors : (ss : List Step) → (steps r ss).system.processors ≡ r.processors
  steps_processors ss = steps_keep _ processors_kept r ss refl

pub started_plan : (n : ℕ) (p : Plan) → (started n p).plan ≡ p
unfolding started blank
started_plan n p = birth_plan (blank n p) (task_id 1) (processor_id 1) unknown

pub started_processors : (n : ℕ) (p : Plan) → (started n p).processors ≡ n
unfolding started blank
started_processors n p = birth_processors (blank n p) (task_id 1) (processor_id 1) unknown

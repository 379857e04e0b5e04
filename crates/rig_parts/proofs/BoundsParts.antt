-- The parts of a rig that 9 does not refuse are within the limits: tasks, desks, mail, the places of tasks, and the tasks that tables name.
use mathlib.Core.Path.{◌≡◌}
use mathlib.Core.Bool.{true}
use mathlib.Core.Logic.{by_cases}
use Prim.Native.Nat.{ℕ, ◌≤◌}
use native.Mathlib.Omega.{arith}
use native.Mathlib.Decide.{ℕ_discrete}
use borrow.Author.Tests.{eq-eqb}
use Rattle.base.specs.Choice.{within}
use Rattle.base.proofs.Tests.{within_low, within_high, within_both}
use Rattle.plan.specs.declared.TaskId.{TaskId}
use Rattle.rules.specs.declared.system.TaskTable.{TaskTable}
use Rattle.rules.specs.declared.system.System.{System}
use Rattle.rules.specs.Systems.{task_at, task_in}
use Rattle.rules_sound.specs.Sound.{program_in, Sound}
use Rattle.rules_sound.proofs.Born.{place_few as behind-few}
use Rattle.rules_sound.proofs.Frames.{tasks_few, program_in_lem}
use Rattle.rules_sound.proofs.Sound.{sound}
use Rattle.plan_index.proofs.ends.Entries.{sender_in_lem, receiver_in_lem, parent_in}
use Rattle.rig_parts.specs.declared.kept.Kept.{Kept}
use Rattle.rig_parts.specs.Facts.{Facts, PartsOf}
use Rattle.rig_parts.specs.Scopes.{named_in}

-- what is within a limit is within a greater one
pub within_wider : (m k : ℕ) → m ≤ k → (a : ℕ) → within 1 m a ≡ true → within 1 k a ≡ true
within_wider m k h a w = within_both 1 k a (within_low 1 m a w) (omega (arith, within_high 1 m a w))

-- the place of a task or none
rig_place : (r : System) → Sound r → (t : TaskId) → t.0 ≤ r.plan.tasks → (task_at r t).pc ≤ 65
rig_place r o t h = by_cases (ℕ_discrete t.0 0) none some
  where
    none : t.0 ≡ 0 → (task_at r t).pc ≤ 65
    none e = unfold task_in in rw (eq-eqb t.0 0 e) (omega arith)

    some : (t.0 ≡ 0 → ⊥) → (task_at r t).pc ≤ 65
    some e =
        let n = r.processors in
        let g = program_in r.plan t in
        let l : 1 ≤ t.0 = omega arith in
        omega (arith, behind-few n r.plan.tasks g (task_at r t) (o.rig.tasks t l h), (program_in_lem n r.plan o.frame t l h).few)

module _ {f : Facts} {n : ℕ} {ts : TaskTable} {s : Kept} {used : ℕ} (p : PartsOf f n ts s used) where
  pub rig_sound : Sound p.system
  rig_sound = sound p.system p.shaped p.sound

  pub count_few : f.tasks ≤ 64
  count_few = rw p.facts_of_lem (tasks_few p.system.processors p.system.plan rig_sound.frame)

  pub used_few : used ≤ 256
  used_few = rw p.messages rig_sound.network.used

  pub processors_few : n ≤ 6
  processors_few = rw p.processors rig_sound.frame.few

  pub place_few : (t : TaskId) → t.0 ≤ f.tasks → (task_in ts t).pc ≤ 65
  place_few t h = rw p.tasks (rig_place p.system rig_sound t (rw p.facts_of_lem at h))

  -- the ends of channel k, the parent of task k
  module _ (k : ℕ) where
    pub sender_few : (named_in f.senders k).0 ≤ f.tasks
    sender_few = rw p.facts_of_lem (sender_in_lem p.system.plan k)

    pub receiver_few : (named_in f.receivers k).0 ≤ f.tasks
    receiver_few = rw p.facts_of_lem (receiver_in_lem p.system.plan k)

    pub parent_few : (named_in f.parents k).0 ≤ f.tasks
    parent_few = rw p.facts_of_lem (parent_in p.system.plan k)

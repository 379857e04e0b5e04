-- The rig at the start of an accepted plan is not refused by 9, and no step from there on is answered so.
use mathlib.Core.Path.{◌≡◌, refl, sym, ◌∙◌, ap}
use mathlib.Core.Bool.{true}
use mathlib.Core.List.{List}
use mathlib.Core.Logic.{◌≢◌}
use Prim.Native.Nat.{ℕ, suc, ◌-◌, ◌≤◌}
use native.Mathlib.Omega.{arith}
use lib.Pow.{pow_pos}
use lib.ListN.{get_or-replicate}
use borrow.Author.Tests.{ne_eqb, le-leb}
use Rattle.std.specs.Prelude.{Ok, Err}
use Rattle.base.specs.Lists.{every}
use Rattle.base.proofs.Tests.{within_both}
use Rattle.base.proofs.SetsOf.{set_is}
use Rattle.base.proofs.Sets.{none_member}
use Rattle.plan.specs.declared.Plan.{Plan}
use Rattle.plan.specs.declared.TaskId.{TaskId}
use Rattle.plan.specs.declared.ProcessorId.{ProcessorId}
use Rattle.plan.specs.declared.ChannelId.{ChannelId}
use Rattle.plan.specs.Programs.{programs}
use Rattle.plan.specs.Refusals.{plan_answer}
use Rattle.rules.specs.declared.step.Step.{Step}
use Rattle.rules.specs.declared.step.StepRefusal.TheVariants.{BadSystem}
use Rattle.rules.specs.Numbers.{task_id, processor_id}
use Rattle.rules.specs.Tasks.{no_task, unborn}
use Rattle.rules.specs.Networks.{messages}
use Rattle.rules.specs.Systems.{is_ready_at, task_at, entry_index, entry_at, channel_at, task_in, parent_index, parent_at}
use Rattle.rules.specs.Starts.{blank, started}
use Rattle.rules.specs.Sound.{system_ok, origin_ok, ready_ok, chosen_ok}
use Rattle.rules.specs.Steps.{step_answer, steps}
use Rattle.rules_laws.proofs.Ready.{is_ready_in, ready_all}
use Rattle.rules_laws.proofs.Shapes.{blank_shaped, started_shaped}
use Rattle.rules_sound.specs.Fine.{FineEntry, FineChannel, FineParent}
use Rattle.rules_sound.specs.Sound.{program_in, HoldsNetwork, Startable, Sound}
use Rattle.rules_sound.specs.Stands.{Stands}
use Rattle.rules_sound.proofs.LifeRules.{unborn_ok_lem}
use Rattle.rules_sound.proofs.Frames.{tasks_few, tasks_some}
use Rattle.rules_sound.proofs.Births.{birth_stands}
use Rattle.rules_sound.proofs.Network.{stands_sound}
use Rattle.rules_sound.proofs.Sound.{sound_ok}
use Rattle.rules_sound.proofs.Kept.{steps_kept}
use Rattle.rules_sound.proofs.Answers.{not_bad}
use Rattle.rules.specs.Hints.{unknown}

module _ (n : ℕ) (p : Plan) (s : Startable n p) where
  blank_tasks : (t : TaskId) → 1 ≤ t.0 → t.0 ≤ p.tasks → task_at (blank n p) t ≡ unborn
  unfolding task_in blank
  blank_tasks t l h = rw (ne_eqb t.0 0 (λ e. omega arith)) (get_or-replicate 64 (t.0 - 1) unborn no_task (omega (arith, tasks_few n p s)))

  blank_entries : (d : ProcessorId) (c : ChannelId) → d.0 ≤ 6 → c.0 ≤ 128 → FineEntry n (entry_at (blank n p) d c)
  unfolding entry_at blank
  blank_entries d c dh ch =
      let z = get_or-replicate {A = ℕ} 768 (entry_index d c) 0 0 (omega arith) in
      record { hint = rw z refl; held = rw z refl; noted = rw z (omega arith) }

  blank_channels : (c : ChannelId) → c.0 ≤ 128 → FineChannel n (channel_at (blank n p) c)
  unfolding channel_at blank
  blank_channels c ch =
      let z = get_or-replicate {A = ℕ} 128 (c.0 - 1) 0 0 (omega arith) in
      record { granted = rw z (omega arith); carried = rw z refl; travelling = rw z refl }

  blank_parents : (d : ProcessorId) (t : TaskId) → d.0 ≤ 6 → t.0 ≤ 64 → FineParent n p.tasks (parent_at (blank n p) d t)
  unfolding parent_at blank
  blank_parents d t dh th =
      let z = get_or-replicate {A = ℕ} 384 (parent_index d t) 0 0 (omega arith) in
      record { hint = rw z refl; held = rw z (pow_pos p.tasks) }

  -- no task is ready, and none was chosen
  blank_ready : ready_ok p.tasks (blank n p).tasks ≡ true
  unfolding blank
  blank_ready =
      ready_all p.tasks (blank n p).tasks
      (λ k l.
      rw (get_or-replicate {A = ℕ} 6 k 0 0 l)
      (set_is (is_ready_in (blank n p).tasks k) p.tasks 0 (pow_pos p.tasks)
      (λ t low high. none_member t ∙ sym (ap (is_ready_at (processor_id (suc k))) (blank_tasks (task_id t) low high)))))

  blank_chosen : chosen_ok p.tasks (blank n p).chosen ≡ true
  unfolding blank chosen_ok every
  blank_chosen = rw (le-leb 0 p.tasks (omega arith)) refl

  blank_stands : Stands n p (blank n p).network (blank n p)
  unfolding blank origin_ok
  blank_stands =
      record {
        processors = refl;
        plan = refl;
        network = refl;
        shaped = blank_shaped n p;
        holds =
            record {
              tasks = λ t l h. rw (blank_tasks t l h) (unborn_ok_lem n p.tasks (program_in p t) (pow_pos p.tasks));
              origins = λ t l h. rw (blank_tasks t l h) refl;
              entries = λ d c dl dh cl ch. blank_entries d c dh ch;
              channels = λ c cl ch. blank_channels c ch;
              parents = λ d t dh th. blank_parents d t dh th;
              ready = blank_ready;
              chosen = blank_chosen;
            };
      }

  blank_network : HoldsNetwork n p (blank n p).network
  unfolding blank messages every
  blank_network = record { messages = refl; used = omega arith }

pub started_sound : (n : ℕ) (p : Plan) → Startable n p → Sound (started n p)
unfolding started origin_ok
started_sound n p s =
    let k = (blank n p).network in
    stands_sound n p k (started n p) s (blank_network n p s)
    (birth_stands n p k s (blank n p) (blank_stands n p s) (task_id 1) (tasks_some n p s) (processor_id 1) (within_both 1 n 1 (omega arith) s.some) unknown refl)

pub started_ok : (n : ℕ) (p : Plan) → 1 ≤ n → n ≤ 6 → plan_answer (programs p) ≡ Ok tt → system_ok (started n p) ≡ true
started_ok n p l h a = sound_ok (started n p) (started_shaped n p) (started_sound n p (record { some = l; few = h; plan = a }))

-- after any steps from the start, no step is answered by 9
pub never_bad : (n : ℕ) (p : Plan) → 1 ≤ n → n ≤ 6 → plan_answer (programs p) ≡ Ok tt → (ss : List Step) (s : Step)
    → step_answer (steps (started n p) ss).system s ≢ Err BadSystem
never_bad n p l h a ss s = not_bad (steps (started n p) ss).system s (steps_kept (started n p) ss (started_shaped n p) (started_ok n p l h a))

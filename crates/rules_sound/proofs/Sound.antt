-- A rig whose arrays have their sizes is sound where the test of 9 holds, and the other way round.
use mathlib.Core.Path.{◌≡◌, refl}
use mathlib.Core.Bool.{true}
use Prim.Native.Nat.{suc}
use native.Mathlib.Omega.{arith}
use lib.Dec.{leb}
use borrow.Author.Tests.{leb-true, le-leb}
use Rattle.std.specs.Prelude.{Ok, Err}
use Rattle.base.proofs.Tests.{and_both, within_low, within_high, within_both, up_to_at, below_all}
use Rattle.plan.specs.Answers.{PlanAnswer}
use Rattle.plan.specs.Answers.{is_accepted}
use Rattle.plan.specs.Refusals.{plan_answer}
use Rattle.plan_laws.proofs.Answers.{and_parts}
use Rattle.rules.specs.declared.system.System.{System}
use Rattle.rules.specs.Numbers.{task_id}
use Rattle.rules.specs.Networks.{messages}
use Rattle.rules.specs.Systems.{meaning}
use Rattle.rules.specs.Sound.{network_ok, system_ok}
use Rattle.rules_laws.specs.Shapes.{Shaped}
use Rattle.rules_laws.proofs.Sound.{task_ok_in, system_passed, system_ok_lem, origin_ok_in}
use Rattle.rules_sound.specs.Sound.{Sound}
use Rattle.rules_sound.proofs.Entries.{tables_fine, fine_tables, channels_fine, fine_channels, parents_fine, fine_parents}

pub accepted_is : (a : PlanAnswer) → is_accepted a ≡ true → a ≡ Ok tt
accepted_is (Ok tt) h = refl
accepted_is (Err r) h = cc

module _ (r : System) (s : Shaped r) where
  pub sound : system_ok r ≡ true → Sound r
  unfolding network_ok
  sound h =
      let n = r.processors in
      let b = system_passed r h in
      let (used, all) = and_parts (leb r.network.used 256) _ b.network in
      record {
        frame = record { some = within_low 1 6 n b.processors; few = within_high 1 6 n b.processors; plan = accepted_is (plan_answer (meaning r)) b.plan };
        rig =
            record {
              tasks = λ t l k. up_to_at (task_ok_in r) r.plan.tasks t.0 l k b.tasks;
              origins = λ t l k. up_to_at (origin_ok_in r) r.plan.tasks t.0 l k b.origins;
              entries = tables_fine n r s b.tables;
              channels = channels_fine n r s b.channels;
              parents = parents_fine n r s r.plan.tasks b.parents;
              ready = b.ready;
              chosen = b.chosen;
            };
        network = record { messages = all; used = leb-true r.network.used 256 used };
      }

  pub sound_ok : Sound r → system_ok r ≡ true
  unfolding network_ok
  sound_ok f =
      let n = r.processors in
      system_ok_lem r
      (record {
        processors = within_both 1 6 n f.frame.some f.frame.few;
        plan = rw f.frame.plan refl;
        tasks = below_all (λ i. task_ok_in r (suc i)) r.plan.tasks (λ i l. f.rig.tasks (task_id (suc i)) (omega arith) (omega arith));
        origins = below_all (λ i. origin_ok_in r (suc i)) r.plan.tasks (λ i l. f.rig.origins (task_id (suc i)) (omega arith) (omega arith));
        tables = fine_tables n r s f.rig.entries;
        channels = fine_channels n r s f.rig.channels;
        parents = fine_parents n r s r.plan.tasks f.rig.parents;
        ready = f.rig.ready;
        chosen = f.rig.chosen;
        network = and_both (leb r.network.used 256) _ (le-leb r.network.used 256 f.network.used) f.network.messages;
      })

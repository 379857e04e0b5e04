-- A move of a ready task leaves a fine effect.
use mathlib.Core.Path.{◌≡◌, refl}
use mathlib.Core.Bool.{true}
use mathlib.Core.Logic.{◌≢◌}
use Prim.Native.Nat.{◌+◌, ◌≤◌}
use native.Mathlib.Omega.{arith}
use Rattle.base.proofs.Tests.{and_both, within_both}
use Rattle.plan.specs.declared.TaskId.{TaskId}
use Rattle.plan.specs.declared.ProcessorId.{ProcessorId}
use Rattle.rules.specs.Numbers.{processor_ok, task_number_ok}
use Rattle.rules.specs.declared.task.TaskState.TheVariants.{Ready}
use Rattle.rules.specs.declared.message.Message.TheVariants.{Migration}
use Rattle.rules.specs.declared.system.System.{System}
use Rattle.rules.specs.Tasks.{is_in, departed}
use Rattle.rules.specs.Systems.{task_at, with_task, parent_at}
use Rattle.rules.specs.Effects.{for_receiving}
use Rattle.rules.specs.Starts.{located, pointing, pointed}
use Rattle.rules.specs.Moves.{departure_sending, moved}
use Rattle.rules.specs.Sound.{moves_ok, message_ok}
use Rattle.rules_sound.specs.Fine.{FinePosting}
use Rattle.rules_sound.specs.Sound.{program_in, Startable}
use Rattle.rules_sound.specs.Stands.{Whole, FineEffect}
use Rattle.rules_sound.proofs.Settled.{settled}
use Rattle.rules_sound.proofs.LifeRules.{departed_ok}
use Rattle.rules_sound.proofs.ChannelRules.{located_fine, departure_sending_fine}
use Rattle.rules_sound.proofs.Postings.{message_posted}
use Rattle.rules_sound.proofs.Rigs.{receiving_stands, sending_stands, same_stands, parent_stands}
use Rattle.rules_sound.proofs.Frames.{tasks_few}
use Rattle.rules.specs.Hints.{hint}
use Rattle.rules_sound.proofs.Origins.{born_origin}
use Rattle.rules_sound.proofs.ParentRules.{pointing_fine}

pub move_fine : (r : System) → Startable r.processors r.plan → Whole r → (t : TaskId) → 1 ≤ t.0 → t.0 ≤ r.plan.tasks
    → is_in Ready (task_at r t) ≡ true → (task_at r t).moves ≢ 9999
    → (e : ProcessorId) → processor_ok r.processors e ≡ true
    → FineEffect r.processors r.plan r.network (FinePosting r.processors r.plan.tasks) (moved r t e)
unfolding moved message_ok
move_fine r s w t l h ready k e o =
    let n = r.processors in
    let m = r.plan.tasks in
    let x = task_at r t in
    let d = x.processor in
    let b = settled n m (program_in r.plan t) x Ready refl ready (w.holds.tasks t l h) in
    let low = b.processor in
    let high : d.0 ≤ 6 = omega (arith, b.processor_few, s.few) in
    let known = and_both (processor_ok n e) (moves_ok (x.moves + 1)) o (within_both 1 9999 (x.moves + 1) (omega arith) (omega arith)) in
    let few = tasks_few n r.plan s in
    let first = with_task r t (departed x) in
    let there =
    same_stands n r.plan r.network r w few t (departed x) h (λ z. departed_ok n m (program_in r.plan t) x b (omega arith))
    (born_origin Ready x (departed x) ready refl refl refl) in
    let p = hint e (x.moves + 1) in
    let old = parent_at first d t in
    let q = pointed first d t p in
    let here =
    parent_stands n r.plan r.network first there d t high (omega arith) (pointing old p)
    (pointing_fine n m old (there.holds.parents d t high (omega arith)) p known) in
    let Located-here = receiving_stands n r.plan r.network (located e (x.moves + 1)) (λ y f. located_fine n y f e (x.moves + 1) known) d low high t q here in
    record {
      system = sending_stands n r.plan r.network departure_sending (departure_sending_fine n) d low high t (for_receiving q t d (located e (x.moves + 1))) Located-here;
      posting = message_posted n m (Migration e t) (and_both (processor_ok n e) (task_number_ok m t) o (within_both 1 m t.0 l h));
    }

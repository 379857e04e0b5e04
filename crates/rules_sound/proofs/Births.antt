-- A birth at a desk of the rig leaves it standing.
use mathlib.Core.Path.{◌≡◌, refl}
use mathlib.Core.Bool.{true}
use Prim.Native.Nat.{ℕ, ◌≤◌}
use native.Mathlib.Omega.{arith}
use lib.Pow.{pow_pos}
use Rattle.base.proofs.Tests.{and_both, within_low, within_high}
use Rattle.plan.specs.declared.Plan.{Plan}
use Rattle.plan.specs.declared.TaskId.{TaskId}
use Rattle.plan.specs.declared.ProcessorId.{ProcessorId}
use Rattle.rules.specs.Numbers.{processor_ok}
use Rattle.rules.specs.declared.message.Network.{Network}
use Rattle.rules.specs.declared.system.System.{System}
use Rattle.rules.specs.Tasks.{born}
use Rattle.rules.specs.Systems.{with_task, parent_at}
use Rattle.rules.specs.Starts.{located, birth, pointing, pointed}
use Rattle.rules_sound.specs.Sound.{program_in, Startable}
use Rattle.rules_sound.specs.Stands.{Stands}
use Rattle.rules_sound.proofs.LifeRules.{birth_ok}
use Rattle.rules_sound.proofs.ChannelRules.{located_fine}
use Rattle.rules_sound.proofs.Rigs.{task_stands, receiving_stands, parent_stands}
use Rattle.rules_sound.proofs.Frames.{tasks_few, program_in_lem}
use Rattle.rules.specs.declared.channel.Hint.{Hint}
use Rattle.rules.specs.Hints.{hint}
use Rattle.rules.specs.Sound.{origin_ok}
use Rattle.rules_sound.proofs.ParentRules.{pointing_fine}

pub birth_stands : (n : ℕ) (p : Plan) (k : Network) → Startable n p → (r : System) → Stands n p k r
    → (t : TaskId) → t.0 ≤ p.tasks → (d : ProcessorId) → processor_ok n d ≡ true → (own : Hint) → origin_ok n t.0 (born d own) ≡ true
    → Stands n p k (birth r t d own)
unfolding birth
birth_stands n p k s r w t h d o own fine =
    let few = tasks_few n p s in
    let q = with_task r t (born d own) in
    let low = within_low 1 n d.0 o in
    let high : d.0 ≤ 6 = omega (arith, s.few, within_high 1 n d.0 o) in
    let known = and_both (processor_ok n d) _ o refl in
    let here =
    task_stands n p k r w few t (born d own) h (λ l. birth_ok n p.tasks (program_in p t) d own o (pow_pos p.tasks) (program_in_lem n p s t l h).some)
    (λ l. fine) in
    let e = parent_at q d t in
    let kept = parent_stands n p k q here d t high (omega arith) (pointing e (hint d 1))
    (pointing_fine n p.tasks e (here.holds.parents d t high (omega arith)) (hint d 1) known) in
    receiving_stands n p k (located d 1) (λ x f. located_fine n x f d 1 known) d low high t (pointed q d t (hint d 1)) kept

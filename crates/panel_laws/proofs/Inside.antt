-- A rig that 9 does not refuse has its T and n within the limits.
use mathlib.Core.Path.{◌≡◌}
use mathlib.Core.Bool.{true}
use Rattle.base.specs.Choice.{within}
use Rattle.base.proofs.Tests.{and_both, within_low, within_high, within_both}
use Rattle.plan.specs.Refusals.{plan_answer}
use Rattle.rules.specs.declared.system.System.{System}
use Rattle.rules.specs.Panel.{countable}
use Rattle.rules.specs.Sound.{system_ok}
use Rattle.rules.specs.Systems.{meaning}
use Rattle.rules_laws.proofs.Sound.{system_passed}
use Rattle.rules_sound.specs.Sound.{Startable}
use Rattle.rules_sound.proofs.Frames.{tasks_few, tasks_some}
use Rattle.rules_sound.proofs.Sound.{accepted_is}

pub inside : (r : System) → system_ok r ≡ true → countable r ≡ true
inside r ok =
    let b = system_passed r ok in
    let n = r.processors in
    let s : Startable n r.plan =
    record { some = within_low 1 6 n b.processors; few = within_high 1 6 n b.processors; plan = accepted_is (plan_answer (meaning r)) b.plan } in
    and_both (within 1 64 r.plan.tasks) (within 1 6 n)
    (within_both 1 64 r.plan.tasks (tasks_some n r.plan s) (tasks_few n r.plan s))
    b.processors

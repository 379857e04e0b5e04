-- A move in a rig without words.
use mathlib.Core.Path.{◌≡◌, ap, ◌∙◌}
use Prim.Native.Nat.{◌+◌}
use Rattle.std.specs.Prelude.{Ok}
use Rattle.plan.specs.declared.TaskId.{TaskId}
use Rattle.plan.specs.declared.ProcessorId.{ProcessorId}
use Rattle.plan.specs.Refusals.{plan_answer}
use Rattle.rules.specs.declared.message.Message.TheVariants.{Migration}
use Rattle.rules.specs.declared.rule.Posting.TheVariants.{Single}
use Rattle.rules.specs.declared.system.System.{System}
use Rattle.rules.specs.Hints.{hint}
use Rattle.rules.specs.Tasks.{departed}
use Rattle.rules.specs.Systems.{task_at, with_task, with_parent, meaning}
use Rattle.rules.specs.Effects.{Effect, changed_posting, for_channels, for_receiving, for_sending}
use Rattle.rules.specs.Starts.{located, pointed}
use Rattle.rules.specs.Moves.{departure_sending, moved}
use Rattle.rules.specs.Erasures.{erased_message, erased_received, erase}
use Rattle.erasure.specs.Erased.{erased_posting, erased_effect}
use Rattle.erasure.proofs.Systems.{task_erased, with_task_lem, pointed_erased, for_receiving_lem, for_sending_lem}

pub moved_erased : (r : System) → plan_answer (meaning r) ≡ Ok tt → (t : TaskId) (e : ProcessorId) → moved (erase r) t e ≡ erased_effect (moved r t e)
unfolding moved with_task with_parent for_channels erased_posting erased_message erased_received
moved_erased r a t e =
    let x = task_at r t in
    let d = x.processor in
    let n = x.moves + 1 in
    let q = with_task r t (departed x) in
    let p = pointed q d t (hint e n) in
    let here = for_receiving p t d (located e n) in
    let left : System → Effect = λ s. changed_posting s (Single (Migration e t)) in
    rw (task_erased r t)
    (ap (λ (s : System). left (for_sending (for_receiving (pointed s d t (hint e n)) t d (located e n)) t d departure_sending)) (with_task_lem r t (departed x))
    ∙ ap (λ (s : System). left (for_sending (for_receiving s t d (located e n)) t d departure_sending)) (pointed_erased q d t (hint e n))
    ∙ ap (λ (s : System). left (for_sending s t d departure_sending)) (for_receiving_lem p a t d (located e n))
    ∙ ap left (for_sending_lem here a t d departure_sending))

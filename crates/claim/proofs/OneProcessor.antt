-- On one desk no letter is ever in the mail.
use mathlib.Core.Path.{◌≡◌, refl, sym, ap, ◌∙◌}
use mathlib.Core.Bool.{Bool, true, false}
use mathlib.Core.List.{List, [], ◌∷◌}
use Prim.Native.Nat.{ℕ}
use native.Mathlib.Omega.{arith}
use Rattle.std.specs.Prelude.{Ok}
use Rattle.base.proofs.Tests.{tests_differ}
use Rattle.plan.specs.declared.Plan.{Plan}
use Rattle.plan.specs.declared.ChannelId.{ChannelId}
use Rattle.plan.specs.declared.Word.{Word}
use Rattle.plan.specs.Numbers.{task_id, processor_id}
use Rattle.plan.specs.Programs.{programs}
use Rattle.rules.specs.Hints.{hint, unknown}
use Rattle.rules.specs.Tasks.{born}
use Rattle.rules.specs.Starts.{located, pointed, birth, blank, started}
use Rattle.rules.specs.declared.system.System.{System}
use Rattle.rules.specs.Systems.{with_task}
use Rattle.invariant.proofs.Next.{Kept}
use Rattle.plan.specs.Refusals.{plan_answer}
use Rattle.rules.specs.declared.step.Step.{Step}
use Rattle.rules.specs.Answers.{is_accepted}
use Rattle.rules.specs.Steps.{is_run, is_deliver, well_formed, step_answer, step, steps_by, steps}
use Rattle.rules_laws.proofs.TaskAt.{with_task_network}
use Rattle.rules_laws.proofs.ParentAt.{with_parent_network}
use Rattle.rules_laws.proofs.ForChannels.{for_channels_network}
use Rattle.rules_laws.proofs.Shapes.{started_processors, step_processors}
use Rattle.rules_laws.proofs.Steps.{step_accepted, step_passed}
use Rattle.rules_laws.proofs.StepKinds.{answer_run, performed_run, answer_deliver, deliver_passed}
use Rattle.claim.specs.OneProcessor.{NothingPosted}
use Rattle.claim.proofs.Lists.{step_either, left, kept_step}
use Rattle.claim.proofs.Moves.{no_move_on_one_processor}
use Rattle.claim.proofs.Whole.{start_kept}
use Rattle.claim.proofs.OneRun.{ran_network}

-- a step of such a rig: no move is accepted, and there is nothing to deliver
step_network : {p : Plan} {r : System} {w : ChannelId → List Word} → Kept p r w → r.processors ≡ 1 → r.network.used ≡ 0 → (s : Step)
    → (step r s).system.network.used ≡ 0
unfolding well_formed
step_network {p} {r} k one none s =
    step_either r s
    (λ e. rw (left r s e) none)
    (λ e. go (is_run s) (is_deliver s) refl refl e)
  where
    go : (b c : Bool) → is_run s ≡ b → is_deliver s ≡ c → step_answer r s ≡ Ok tt → (step r s).system.network.used ≡ 0
    go true c run deliver ok =
        let t = task_id s.task in
        let passed = sym (answer_run r s run) ∙ (step_passed r s ok).rule in
        rw (step_accepted r s ok, performed_run r s run, ran_network k one t passed) none
    go false true run deliver ok =
        let (l, u) = deliver_passed r s.number (sym (answer_deliver r s deliver) ∙ (step_passed r s ok).rule) in
        absurd (omega (arith, none))
    go false false run deliver ok =
        let form = (step_passed r s ok).form in
        absurd (tests_differ (ap is_accepted ok) (no_move_on_one_processor r s one (rw (run, deliver) at form)))

steps_network : (p : Plan) → plan_answer (programs p) ≡ Ok tt → {r : System} {w : ChannelId → List Word} → Kept p r w → r.processors ≡ 1
    → r.network.used ≡ 0 → (ss : List Step) → (steps r ss).system.network.used ≡ 0
unfolding steps_by
steps_network p a k one none [] = none
steps_network p a {r} k one none (s ∷ ss) =
    steps_network p a {r = (step r s).system} (kept_step p a k s) (step_processors r s ∙ one) (step_network k one none s) ss

-- at the start there is none
start_network : (n : ℕ) (p : Plan) → (started n p).network.used ≡ 0
unfolding started blank birth
start_network n p =
    let one = processor_id 1 in
    let first = with_task (blank n p) (task_id 1) (born one unknown) in
    rw (
      for_channels_network _ (located one 1) one 128 (pointed first one (task_id 1) (hint one 1)),
      with_parent_network first one (task_id 1) _,
      with_task_network (blank n p) (task_id 1) (born one unknown),
    )
    refl

pub nothing_posted : NothingPosted
nothing_posted p ss a = steps_network p a (start_kept 1 p (omega arith) (omega arith) a) (started_processors 1 p) (start_network 1 p) ss

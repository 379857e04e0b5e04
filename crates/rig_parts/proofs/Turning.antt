-- One step on the parts of a rig that 9 does not refuse is the step of the rig.
use mathlib.Core.Path.{◌≡◌, refl, sym, ◌∙◌, ap}
use mathlib.Core.Bool.{Bool, true, false}
use Rattle.std.specs.Prelude.{Ok, Err}
use Rattle.base.specs.Choice.{unless, within}
use Rattle.base.proofs.Choices.{pick_cases}
use Rattle.base.proofs.Tests.{within_low, within_high}
use Rattle.rules.specs.declared.step.Step.{Step}
use Rattle.rules.specs.declared.step.StepRefusal.TheVariants.{NoMessage, BadStep}
use Rattle.rules.specs.declared.system.System.{System}
use Rattle.rules.specs.Numbers.{task_id, processor_id}
use Rattle.rules.specs.Networks.{message_at, dequeued}
use Rattle.rules.specs.Systems.{task_at, with_network}
use Rattle.rules.specs.Effects.{Effect}
use Rattle.rules.specs.Runs.{next_of, run_answer}
use Rattle.rules.specs.Deliver.{deliver_answer}
use Rattle.rules.specs.Moves.{move_answer}
use Rattle.rules.specs.Sound.{system_ok}
use Rattle.rules.specs.Steps.{is_run, is_deliver, is_move, well_formed, kind_answer, ruled_answer, accepted, answered, ruled_step}
use Rattle.rules_laws.specs.Shapes.{Shaped}
use Rattle.rules_laws.proofs.Steps.{accepted_is}
use Rattle.rules_laws.proofs.StepKinds.{answer_run, performed_run, answer_deliver, performed_deliver, answer_move, performed_move}
use Rattle.rules_sound.specs.Sound.{Sound}
use Rattle.rules_sound.proofs.Sound.{sound}
use Rattle.rules_sound.proofs.Answers.{run_passed}
use Rattle.rig_parts.specs.Facts.{facts_of, kept_in}
use Rattle.rig_parts.specs.RunVerdicts.{judged_run}
use Rattle.rig_parts.specs.MoveVerdicts.{move_change, judged_move}
use Rattle.rig_parts.specs.Openings.{opened_in}
use Rattle.rig_parts.specs.Effects.{ran_of}
use Rattle.rig_parts.proofs.Runs.{run_effect, run_answer_lem}
use Rattle.rig_parts.proofs.Moves.{move_effect, move_answer_lem}
use Rattle.rig_parts.proofs.Deliveries.{deliver_effect}
use Rattle.rig_parts.specs.declared.turn.Turn.{Turn}
use Rattle.rig_parts.specs.Turns.{refused_turn, delivered_turn, turn_of, parts_of}
use Rattle.rig_parts.proofs.Carrying.{carried_in, settled_in, carried_is_lem, settled_is}

-- a step, by the answer of its kind where 19 does not refuse it
form_tested : (r : System) (x : Step) (v : Turn) → (well_formed x ≡ true → v ≡ parts_of (answered r x (kind_answer r x)))
    → unless (well_formed x) (refused_turn (Err BadStep) r.tasks r.network (kept_in r)) v ≡ parts_of (ruled_step r x)
unfolding ruled_step ruled_answer answered
form_tested r x v h = go (well_formed x) h
  where
    go : (ok : Bool) → (ok ≡ true → v ≡ parts_of (answered r x (kind_answer r x)))
        → unless ok (refused_turn (Err BadStep) r.tasks r.network (kept_in r)) v ≡ parts_of (answered r x (unless ok (Err BadStep) (kind_answer r x)))
    go true k = k refl
    go false k = refl

-- what is well formed and neither a run nor a delivery is a move
else_move : (x : Step) → well_formed x ≡ true → is_run x ≡ false → is_deliver x ≡ false → is_move x ≡ true
unfolding well_formed
else_move x e u d = rw (u, d) at e

module _ (r : System) (z : Shaped r) (f : Sound r) (x : Step) where
  run_turn_lem : is_run x ≡ true
      → let t = task_id x.task in
      settled_in r (judged_run (facts_of r.plan) r.processors r.tasks (kept_in r) r.network.used t) ≡ parts_of (answered r x (run_answer r t))
  run_turn_lem kind =
      let t = task_id x.task in
      let m = r.plan.tasks in
      rw (run_answer_lem r f t)
      (settled_is r x (ran_of r t (next_of r t)) (run_answer r t)
      (λ a.
      let p = run_passed r t (accepted_is (run_answer r t) a) in
      performed_run r x kind ∙ run_effect r f t (within_low 1 m t.0 p.task) (within_high 1 m t.0 p.task) p.ready))

  move_turn : is_move x ≡ true
      → let t = task_id x.task in
      let e = processor_id x.number in
      settled_in r (judged_move r.plan.tasks r.processors r.tasks r.network.used t e) ≡ parts_of (answered r x (move_answer r t e))
  move_turn kind =
      let t = task_id x.task in
      let e = processor_id x.number in
      rw (move_answer_lem r t e) (settled_is r x (move_change t (task_at r t) e) (move_answer r t e) (λ a. performed_move r x kind ∙ move_effect r t e))

  deliver_turn : is_deliver x ≡ true
      → delivered_turn (facts_of r.plan) r.processors r.tasks r.network (kept_in r) x.number ≡ parts_of (answered r x (deliver_answer r x.number))
  unfolding delivered_turn deliver_answer answered
  deliver_turn kind = go (within 1 r.network.used x.number) refl
    where
      go : (b : Bool) → within 1 r.network.used x.number ≡ b
          → unless b (refused_turn (Err NoMessage) r.tasks r.network (kept_in r))
          (carried_in (with_network r (dequeued r.network x.number)) (opened_in (facts_of r.plan) r.tasks (kept_in r) (message_at r.network x.number)))
          ≡ parts_of (answered r x (unless b (Err NoMessage) (Ok tt)))
      go true e =
          let p = x.number in
          let used = r.network.used in
          let q = with_network r (dequeued r.network p) in
          let same = performed_deliver r x kind ∙ deliver_effect r z f p (within_low 1 used p e) (within_high 1 used p e) in
          carried_is_lem q (opened_in (facts_of r.plan) r.tasks (kept_in r) (message_at r.network p)) ∙ ap (λ (o : Effect). parts_of (accepted o)) (sym same)
      go false e = refl

  kinds_turn : turn_of (facts_of r.plan) r.processors r.tasks r.network (kept_in r) x ≡ parts_of (ruled_step r x)
  unfolding turn_of
  kinds_turn =
      form_tested r x _
      (λ e.
      let Is : Turn → Type 0 = λ v. v ≡ parts_of (answered r x (kind_answer r x)) in
      pick_cases Is (is_run x) _ _
      (λ u. rw (answer_run r x u) (run_turn_lem u))
      (λ u.
      pick_cases Is (is_deliver x) _ _
      (λ d. rw (answer_deliver r x d) (deliver_turn d))
      (λ d.
      let m = else_move x e u d in
      rw (answer_move r x m) (move_turn m))))

pub turn_is : (r : System) → Shaped r → system_ok r ≡ true → (x : Step)
    → turn_of (facts_of r.plan) r.processors r.tasks r.network (kept_in r) x ≡ parts_of (ruled_step r x)
turn_is r z o x = kinds_turn r z (sound r z o) x

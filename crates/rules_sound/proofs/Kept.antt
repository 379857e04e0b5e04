-- An accepted step leaves a rig that 9 does not refuse; so does any list of steps.
use mathlib.Core.Path.{◌≡◌, refl, sym, ◌∙◌}
use mathlib.Core.Bool.{Bool, true, false}
use mathlib.Core.List.{List, [], ◌∷◌, ◌++◌}
use Prim.Native.Nat.{ℕ, ◌+◌, ◌≤◌}
use native.Mathlib.Omega.{arith}
use lib.ListN.{length}
use borrow.Author.Tests.{leb-true, eqb-true, eqb-false}
use Rattle.std.specs.Prelude.{Ok}
use Rattle.base.specs.Choice.{pick}
use Rattle.base.proofs.Tests.{within_low, within_high}
use Rattle.plan.specs.declared.TaskId.{TaskId}
use Rattle.plan.specs.declared.ProcessorId.{ProcessorId}
use Rattle.rules.specs.declared.message.Message.{Message}
use Rattle.rules.specs.declared.message.Network.{Network}
use Rattle.rules.specs.declared.step.Step.{Step}
use Rattle.rules.specs.declared.system.System.{System}
use Rattle.rules.specs.Numbers.{task_id, processor_id}
use Rattle.rules.specs.Networks.{messages, message_at, dequeued, messages_of}
use Rattle.rules.specs.Systems.{task_at, with_network}
use Rattle.rules.specs.Effects.{Effect, completed}
use Rattle.rules.specs.Runs.{ran, fits, run_answer}
use Rattle.rules.specs.Deliver.{delivered, deliver_answer}
use Rattle.rules.specs.Moves.{moved, move_answer}
use Rattle.rules.specs.Sound.{system_ok}
use Rattle.rules.specs.Steps.{is_run, is_deliver, is_move, well_formed, step_answer, performed, step, steps_by, steps, ruled_steps}
use Rattle.rules_laws.specs.Shapes.{Shaped}
use Rattle.rules_laws.proofs.Messages.{messages_enqueued_all, dequeued_used, dequeued_size}
use Rattle.rules_laws.proofs.Steps.{step_cases, step_accepted, step_passed, ruled_step_lem}
use Rattle.rules_laws.proofs.StepKinds.{answer_run, answer_deliver, answer_move, deliver_passed}
use Rattle.rules_laws.proofs.Shapes.{step_shaped}
use Rattle.rules_sound.specs.Fine.{FinePosting}
use Rattle.rules_sound.specs.Sound.{HoldsNetwork, Sound}
use Rattle.rules_sound.specs.Stands.{Whole, FineEffect}
use Rattle.rules_sound.proofs.Network.{message_fine, leave_fine, network_stands, completed_sound}
use Rattle.rules_sound.proofs.Runs.{run_fine}
use Rattle.rules_sound.proofs.Moves.{move_fine}
use Rattle.rules_sound.proofs.Deliveries.{open_fine}
use Rattle.rules_sound.proofs.Sound.{sound, sound_ok}
use Rattle.rules_sound.proofs.Answers.{run_passed, move_passed}

-- the mail that an accepted step leaves, before its letters join it: a delivery takes its letter
abbrev pub standing : System → Step → Network
standing r s = pick (is_deliver s) (dequeued r.network s.number) r.network

-- a step that 19 does not refuse is of one of three kinds
module _ (r : System) (s : Step) (P : Network → Effect → Type 0) (form : well_formed s ≡ true) where
  either_kind : (is_run s ≡ true → P r.network (ran r (task_id s.task))) → (is_deliver s ≡ true → P (dequeued r.network s.number) (delivered r s.number))
      → (is_move s ≡ true → P r.network (moved r (task_id s.task) (processor_id s.number)))
      → P (standing r s) (performed r s)
  unfolding performed well_formed
  either_kind run deliver move = go (is_run s) refl (is_deliver s) refl
    where
      go : (b : Bool) → is_run s ≡ b → (c : Bool) → is_deliver s ≡ c → P (standing r s) (performed r s)
      go true e true g = absurd (omega (arith, eqb-true s.kind 1 e, eqb-true s.kind 2 g))
      go true e false g = rw (e, g) (run e)
      go false e true g = rw (e, g) (deliver g)
      go false e false g = let m : is_move s ≡ true = rw (e, g) at form in rw (e, g) (move m)

module _ (r : System) (z : Shaped r) (f : Sound r) where
  pub whole : Whole r
  whole = record { processors = refl; plan = refl; network = refl; shaped = z; holds = f.rig }

  -- what a step has done when its letters are yet to join the mail k: it is fine, and they fit
  pub record Performed (k : Network) (e : Effect) : Type 0 where
    pub network : HoldsNetwork r.processors r.plan k
    pub fine : FineEffect r.processors r.plan k (FinePosting r.processors r.plan.tasks) e
    pub fitting : k.used + length (messages_of r.processors e.posting) ≤ 256

  -- a fine effect on the rig's mail
  fitting_in_lem : (e : Effect) → FineEffect r.processors r.plan r.network (FinePosting r.processors r.plan.tasks) e → fits r e ≡ true
      → Performed r.network e
  unfolding fits
  fitting_in_lem e g h = record { network = f.network; fine = g; fitting = leb-true _ 256 h }

  run_performed : (t : TaskId) → run_answer r t ≡ Ok tt → Performed r.network (ran r t)
  run_performed t a =
      let p = run_passed r t a in
      let low = within_low 1 r.plan.tasks t.0 p.task in
      let high = within_high 1 r.plan.tasks t.0 p.task in
      fitting_in_lem (ran r t) (run_fine r f.frame whole t low high p.ready) p.fitting

  move_performed : (t : TaskId) (e : ProcessorId) → move_answer r t e ≡ Ok tt → Performed r.network (moved r t e)
  move_performed t e a =
      let p = move_passed r t e a in
      let low = within_low 1 r.plan.tasks t.0 p.task in
      let high = within_high 1 r.plan.tasks t.0 p.task in
      let more = eqb-false (task_at r t).moves 9999 p.count in
      fitting_in_lem (moved r t e) (move_fine r f.frame whole t low high p.ready more e p.processor) p.fitting

  deliver_performed : (p : ℕ) → deliver_answer r p ≡ Ok tt → Performed (dequeued r.network p) (delivered r p)
  unfolding delivered
  deliver_performed p a =
      let (some, there) = deliver_passed r p a in
      let k = r.network in
      let q = with_network r (dequeued k p) in
      let size = dequeued_size k p some there (omega (arith, f.network.used, z.slots)) ∙ z.slots in
      let w : Whole q = network_stands r.processors r.plan k r whole (dequeued k p) size in
      let g = open_fine q f.frame w (message_at k p) (message_fine r.processors r.plan k z.slots f.network p some there) in
      record {
        network = leave_fine r.processors r.plan k z.slots f.network p some there;
        fine = record { system = g.system; posting = g.posting.posting };
        fitting = omega (arith, g.posting.few, dequeued_used k p, f.network.used);
      }

  pub step_performed : (s : Step) → step_answer r s ≡ Ok tt → Performed (standing r s) (performed r s)
  unfolding performed well_formed
  step_performed s a =
      let p = step_passed r s a in
      either_kind r s (λ k e. Performed k e) p.form
      (λ u. run_performed (task_id s.task) (sym (answer_run r s u) ∙ p.rule))
      (λ d. deliver_performed s.number (sym (answer_deliver r s d) ∙ p.rule))
      (λ m. move_performed (task_id s.task) (processor_id s.number) (sym (answer_move r s m) ∙ p.rule))

  performed_sound : (s : Step) → step_answer r s ≡ Ok tt → Sound (completed (performed r s))
  performed_sound s a =
      let d = step_performed s a in
      completed_sound r.processors r.plan (standing r s) (performed r s) f.frame d.network d.fine d.fitting

-- an accepted step
pub kept : (r : System) (s : Step) → Shaped r → step_answer r s ≡ Ok tt → system_ok (step r s).system ≡ true
kept r s z a =
    sound_ok (step r s).system (step_shaped r s z)
    (rw (step_accepted r s a) (performed_sound r z (sound r z (step_passed r s a).system) s a))

-- the letters after an accepted step: those posted stand behind the others
pub mail_then : (r : System) (s : Step) → Shaped r → step_answer r s ≡ Ok tt → (ms : List Message) × (messages (step r s).system.network ≡ messages (standing r s) ++ ms)
unfolding completed
mail_then r s z a =
    let d = step_performed r z (sound r z (step_passed r s a).system) s a in
    let e = performed r s in
    let ms = messages_of r.processors e.posting in
    let size : length (standing r s).slots ≡ 256 = rw d.fine.system.network at d.fine.system.shaped.slots in (
      ms,
      rw (step_accepted r s a, d.fine.system.network, d.fine.system.processors)
          (messages_enqueued_all (standing r s) ms (omega (arith, size, d.fitting))),
    )

-- any step: a refused one leaves the rig as it was
pub step_kept : (r : System) (s : Step) → Shaped r → system_ok r ≡ true → system_ok (step r s).system ≡ true
step_kept r s z h = step_cases r s (λ o. system_ok o.system ≡ true) (λ e. h) (λ e. rw (step_accepted r s e) at (kept r s z e))

pub steps_kept : (r : System) (ss : List Step) → Shaped r → system_ok r ≡ true → system_ok (steps r ss).system ≡ true
unfolding steps_by
steps_kept r [] z h = h
steps_kept r (s ∷ ss) z h = steps_kept (step r s).system ss (step_shaped r s z) (step_kept r s z h)

-- so 9 need be tested only once, before the first step
pub ruled_steps_lem : (r : System) (ss : List Step) → Shaped r → system_ok r ≡ true → ruled_steps r ss ≡ steps r ss
unfolding steps_by
ruled_steps_lem r [] z h = refl
ruled_steps_lem r (s ∷ ss) z h = rw (ruled_step_lem r s h, ruled_steps_lem (step r s).system ss (step_shaped r s z) (step_kept r s z h)) refl

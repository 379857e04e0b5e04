-- No rule looks at the last choices, and none changes them: in a rig with other last choices, such as 9 refuses or not as it does the rig's own, a
-- step has the same report and leaves the same rig but for them.
use mathlib.Core.Path.{◌≡◌, refl, sym, ap}
use mathlib.Core.List.{List}
use Prim.Native.Nat.{ℕ}
use Rattle.base.proofs.Choices.{pick_under, unless_under}
use Rattle.plan.specs.declared.TaskId.{TaskId}
use Rattle.plan.specs.declared.ProcessorId.{ProcessorId}
use Rattle.plan.specs.declared.Instruction.{Instruction}
use Rattle.rules.specs.declared.task.TaskState.TheVariants.{Moving}
use Rattle.rules.specs.declared.message.Message.{Message}
use Rattle.rules.specs.declared.message.Message.TheVariants.{Empty, Offered, Advert, ReadyToReceive, Data, Terminated, Migration}
use Rattle.rules.specs.declared.step.Step.{Step}
use Rattle.rules.specs.declared.step.Stepped.{Stepped}
use Rattle.rules.specs.declared.system.System.{System}
use Rattle.rules.specs.Numbers.{task_id, processor_id}
use Rattle.rules.specs.Tasks.{is_in}
use Rattle.rules.specs.Answers.{is_accepted}
use Rattle.rules.specs.Systems.{with_network, with_chosen, task_at, with_task, entry_at, channel_at, with_cell, parent_at, with_parent}
use Rattle.rules.specs.Networks.{message_at, dequeued}
use Rattle.rules.specs.Effects.{Effect, changed, completed, site_at, with_outcome, for_channels}
use Rattle.rules.specs.Starts.{birth}
use Rattle.rules.specs.Runs.{ran_create, ran_finish, ran_send, ran_receive, by_opcode, executed, next_of, ran, fits, run_answer}
use Rattle.rules.specs.Arrivals.{arrival}
use Rattle.rules.specs.Deliver.{got_terminated, got_migration, opened, delivered, deliver_answer}
use Rattle.rules.specs.Moves.{moved, move_answer}
use Rattle.rules.specs.Sound.{chosen_ok, system_ok}
use Rattle.rules.specs.Steps.{kind_answer, ruled_answer, step_answer, performed, refused, accepted, answered, step}

-- an effect, and what a step gives, with other last choices in the rig
abbrev pub effect_with : List ℕ → Effect → Effect
effect_with x e = record { system = with_chosen e.system x; posting = e.posting; received = e.received }

abbrev pub stepped_with : List ℕ → Stepped → Stepped
stepped_with x o = record { report = o.report; system = with_chosen o.system x }

-- a function of one of seven
opcode_under : {A B : Type 0} (f : A → B) (i : Instruction) (a b c d e g h : A)
    → f (by_opcode i a b c d e g h) ≡ by_opcode i (f a) (f b) (f c) (f d) (f e) (f g) (f h)
opcode_under f i a b c d e g h = simp (pick_under f)

opened_blind : (r : System) (x : List ℕ) (m : Message) → opened (with_chosen r x) m ≡ effect_with x (opened r m)
unfolding opened got_terminated got_migration with_task with_parent parent_at with_outcome site_at with_cell entry_at channel_at arrival for_channels
opened_blind r x Empty = refl
opened_blind r x (Offered c o h) = refl
opened_blind r x (Advert c d from) = refl
opened_blind r x (ReadyToReceive c d h) = refl
opened_blind r x (Data c d w) = refl
opened_blind r x (Terminated h t) = refl
opened_blind r x (Migration d t) = ap changed (sym (pick_under (λ q. with_chosen q x) (is_in Moving (task_at r t)) (arrival r t d) r))

module _ (r : System) (x : List ℕ) where
  executed_blind : (t : TaskId) (i : Instruction) → executed (with_chosen r x) t i ≡ effect_with x (executed r t i)
  unfolding executed ran_create ran_finish ran_send ran_receive birth with_task with_parent parent_at for_channels with_outcome site_at with_cell entry_at channel_at
  executed_blind t i = sym (opcode_under (effect_with x) i _ _ _ _ _ _ _)

  ran_blind : (t : TaskId) → ran (with_chosen r x) t ≡ effect_with x (ran r t)
  unfolding ran
  ran_blind t = executed_blind t (next_of r t)

  moved_blind : (t : TaskId) (e : ProcessorId) → moved (with_chosen r x) t e ≡ effect_with x (moved r t e)
  unfolding moved with_task with_parent parent_at for_channels
  moved_blind t e = refl

  delivered_blind : (p : ℕ) → delivered (with_chosen r x) p ≡ effect_with x (delivered r p)
  unfolding delivered
  delivered_blind p = opened_blind (with_network r (dequeued r.network p)) x (message_at r.network p)

  performed_blind : (s : Step) → performed (with_chosen r x) s ≡ effect_with x (performed r s)
  unfolding performed
  performed_blind s =
      rw (ran_blind (task_id s.task), delivered_blind s.number, moved_blind (task_id s.task) (processor_id s.number))
      (simp (pick_under (effect_with x)))

  answer_blind : (s : Step) → kind_answer (with_chosen r x) s ≡ kind_answer r s
  unfolding kind_answer run_answer deliver_answer move_answer fits
  answer_blind s = rw (ran_blind (task_id s.task), moved_blind (task_id s.task) (processor_id s.number)) refl

  -- 9 looks at them, and at nothing else of what differs
  module _ (same : chosen_ok r.plan.tasks x ≡ chosen_ok r.plan.tasks r.chosen) where
    pub system_blind : system_ok (with_chosen r x) ≡ system_ok r
    unfolding system_ok
    system_blind = rw same refl

    pub step_answer_blind : (s : Step) → step_answer (with_chosen r x) s ≡ step_answer r s
    unfolding step_answer ruled_answer
    step_answer_blind s = rw (system_blind, answer_blind s) refl

    pub step_blind : (s : Step) → step (with_chosen r x) s ≡ stepped_with x (step r s)
    unfolding step answered completed
    step_blind s =
        rw (step_answer_blind s, performed_blind s)
        (unless_under (stepped_with x) (is_accepted (step_answer r s)) (refused r (step_answer r s)) (accepted (performed r s)))

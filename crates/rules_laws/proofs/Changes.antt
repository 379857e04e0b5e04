-- What every small change of the rig keeps, every step keeps: a rule changes tasks, cells and what is kept for parents, and letters leave the mail and join it.
use mathlib.Core.Path.{◌≡◌, refl, sym, ◌∙◌}
use mathlib.Core.Bool.{Bool}
use mathlib.Core.List.{List, [], ◌∷◌}
use Prim.Native.Nat.{ℕ, suc, ◌≤◌}
use lib.Dec.{eqb}
use Rattle.std.specs.Prelude.{Ok}
use Rattle.base.proofs.Choices.{pick_cases, pick_either}
use Rattle.plan.specs.declared.TaskId.{TaskId}
use Rattle.plan.specs.declared.ProcessorId.{ProcessorId}
use Rattle.plan.specs.declared.ChannelId.{ChannelId}
use Rattle.plan.specs.declared.Instruction.{Instruction}
use Rattle.plan.specs.Kinds.{op_create, op_sync, op_finish, op_send, op_receive, op_set}
use Rattle.rules.specs.declared.task.Task.{Task}
use Rattle.rules.specs.declared.task.TaskState.TheVariants.{Moving}
use Rattle.rules.specs.declared.channel.Hint.{Hint}
use Rattle.rules.specs.declared.channel.Cell.{Cell}
use Rattle.rules.specs.declared.message.Message.{Message}
use Rattle.rules.specs.declared.message.Network.{Network}
use Rattle.rules.specs.declared.message.Message.TheVariants.{Empty, Offered, Advert, ReadyToReceive, Data, Terminated, Migration}
use Rattle.rules.specs.declared.rule.Outcome.{Outcome}
use Rattle.rules.specs.declared.step.Step.{Step}
use Rattle.rules.specs.declared.system.ParentEntry.{ParentEntry}
use Rattle.rules.specs.declared.system.System.{System}
use Rattle.rules.specs.Numbers.{task_id, processor_id, channel_id}
use Rattle.rules.specs.Tasks.{is_in}
use Rattle.rules.specs.Networks.{message_at, enqueued_all, dequeued}
use Rattle.rules.specs.Systems.{with_network, task_at, with_task, with_cell, with_parent}
use Rattle.rules.specs.Effects.{Effect, completed, with_outcome, for_channels}
use Rattle.rules.specs.Starts.{birth}
use Rattle.rules.specs.Runs.{ran_create, ran_finish, ran_send, ran_receive, executed, ran, next_of}
use Rattle.rules.specs.Arrivals.{arrival}
use Rattle.rules.specs.Deliver.{got_terminated, got_migration, opened, delivered}
use Rattle.rules.specs.Moves.{moved}
use Rattle.rules.specs.Steps.{is_run, is_deliver, step_answer, performed, step, steps_by, steps}
use Rattle.rules_laws.proofs.CellAt.{with_cell_network}
use Rattle.rules_laws.proofs.ForChannels.{for_channels_all}
use Rattle.rules_laws.proofs.ParentAt.{with_parent_network}
use Rattle.rules_laws.proofs.Sound.{messages_fit}
use Rattle.rules_laws.proofs.Steps.{step_cases, step_passed}
use Rattle.rules_laws.proofs.StepKinds.{answer_deliver, deliver_passed}
use Rattle.rules_laws.proofs.TaskAt.{with_task_network}

-- a task is written, a cell, an entry of a parent
pub record Written (P : System → Type 0) : Type 0 where
  pub task : (q : System) (t : TaskId) (x : Task) → P q → P (with_task q t x)
  pub cell : (q : System) (d : ProcessorId) (c : ChannelId) (x : Cell) → P q → P (with_cell q d c x)
  pub parent : (q : System) (d : ProcessorId) (t : TaskId) (e : ParentEntry) → P q → P (with_parent q d t e)

-- .. letters join the mail, one leaves it
pub record Kept (P : System → Type 0) : Type 0 where
  pub task : (q : System) (t : TaskId) (x : Task) → P q → P (with_task q t x)
  pub cell : (q : System) (d : ProcessorId) (c : ChannelId) (x : Cell) → P q → P (with_cell q d c x)
  pub parent : (q : System) (d : ProcessorId) (t : TaskId) (e : ParentEntry) → P q → P (with_parent q d t e)
  pub join : (q : System) (ms : List Message) → P q → P (with_network q (enqueued_all q.network ms))
  pub leave : (q : System) (p : ℕ) → 1 ≤ p → p ≤ q.network.used → q.network.used ≤ 256 → P q → P (with_network q (dequeued q.network p))

pub written : {P : System → Type 0} → Kept P → Written P
written k = record { task = k.task; cell = k.cell; parent = k.parent }

-- what a step does before its letters join the mail
module _ (P : System → Type 0) (k : Written P) where
  channels : (n : ℕ) (test : ChannelId → Bool) (rule : Cell → Cell) (d : ProcessorId) (r : System) → P r → P (for_channels n test rule d r)
  channels n test rule d r h = for_channels_all test rule d P n r (λ q i x l. k.cell q d (channel_id (suc i)) x) h

  pub birth_keeps : (r : System) (t : TaskId) (d : ProcessorId) (own : Hint) → P r → P (birth r t d own)
  unfolding birth
  birth_keeps r t d own h = channels 128 _ _ d _ (k.parent _ d t _ (k.task r t _ h))

  outcome : (r : System) (s u : TaskId) (c : ChannelId) (d : ProcessorId) (o : Outcome) → P r → P (with_outcome r s u c d o).system
  unfolding with_outcome
  outcome r s u c d o h = k.cell _ d c _ (k.task _ u _ (k.task r s _ h))

  -- a run
  finish : (r : System) (t : TaskId) → P r → P (ran_finish r t).system
  unfolding ran_finish
  finish r t h = k.parent _ _ _ _ (k.task _ t _ (k.task r _ _ h))

  create : (r : System) (t u : TaskId) → P r → P (ran_create r t u).system
  unfolding ran_create
  create r t u h = birth_keeps _ u _ _ (k.task r t _ h)

  send : (r : System) (t : TaskId) (c : ChannelId) → P r → P (ran_send r t c).system
  unfolding ran_send
  send r t c h = outcome r t _ c _ _ h

  receive : (r : System) (t : TaskId) (c : ChannelId) → P r → P (ran_receive r t c).system
  unfolding ran_receive
  receive r t c h = outcome r _ t c _ _ h

  execute : (r : System) (t : TaskId) (i : Instruction) → P r → P (executed r t i).system
  unfolding executed
  execute r t i h =
      let Q : Effect → Type 0 = λ e. P e.system in
      pick_either Q (eqb i.opcode op_create) _ _ (create r t _ h)
      (pick_either Q (eqb i.opcode op_sync) _ _ (k.task r t _ h)
      (pick_either Q (eqb i.opcode op_finish) _ _ (finish r t h)
      (pick_either Q (eqb i.opcode op_send) _ _ (send r t _ h)
      (pick_either Q (eqb i.opcode op_receive) _ _ (receive r t _ h)
      (pick_either Q (eqb i.opcode op_set) _ _ (k.task r t _ h)
      (k.task r t _ h))))))

  ran_keeps : (r : System) (t : TaskId) → P r → P (ran r t).system
  unfolding ran
  ran_keeps r t h = execute r t (next_of r t) h

  -- a delivery
  arrive : (r : System) (t : TaskId) (d : ProcessorId) → P r → P (arrival r t d)
  unfolding arrival
  arrive r t d h = channels 128 _ _ d _ (channels 128 _ _ d _ (k.parent _ d t _ (k.task r t _ h)))

  migration : (r : System) (d : ProcessorId) (t : TaskId) → P r → P (got_migration r d t)
  unfolding got_migration
  migration r d t h = pick_either P (is_in Moving (task_at r t)) (arrival r t d) r (arrive r t d h) h

  termination : (r : System) (p : Hint) (t : TaskId) → P r → P (got_terminated r p t).system
  unfolding got_terminated
  termination r p t h = k.parent _ _ _ _ (k.task r _ _ h)

  opened_keeps : (r : System) (m : Message) → P r → P (opened r m).system
  unfolding opened
  opened_keeps r Empty h = h
  opened_keeps r (Offered c o p) h = outcome r _ _ c _ _ h
  opened_keeps r (Advert c d from) h = outcome r _ _ c _ _ h
  opened_keeps r (ReadyToReceive c d p) h = outcome r _ _ c _ _ h
  opened_keeps r (Data c d w) h = outcome r _ _ c _ _ h
  opened_keeps r (Terminated p t) h = termination r p t h
  opened_keeps r (Migration d t) h = migration r d t h

  -- a move
  pub moved_keeps : (r : System) (t : TaskId) (e : ProcessorId) → P r → P (moved r t e).system
  unfolding moved
  moved_keeps r t e h = channels 128 _ _ _ _ (channels 128 _ _ _ _ (k.parent _ _ t _ (k.task r t _ h)))

-- whole steps
module _ (P : System → Type 0) (k : Kept P) where
  delivered_keeps : (r : System) (p : ℕ) → 1 ≤ p → p ≤ r.network.used → r.network.used ≤ 256 → P r → P (delivered r p).system
  unfolding delivered
  delivered_keeps r p some there few h = opened_keeps P (written k) _ (message_at r.network p) (k.leave r p some there few h)

  -- letters
  completed_keeps : (e : Effect) → P e.system → P (completed e)
  unfolding completed
  completed_keeps e h = k.join e.system _ h

  performed_keeps : (r : System) (s : Step) → step_answer r s ≡ Ok tt → P r → P (performed r s).system
  unfolding performed
  performed_keeps r s a h =
      let Q : Effect → Type 0 = λ e. P e.system in
      let p = step_passed r s a in
      pick_either Q (is_run s) _ _ (ran_keeps P (written k) r (task_id s.task) h)
      (pick_cases Q (is_deliver s) _ _
      (λ d.
      let (some, there) = deliver_passed r s.number (sym (answer_deliver r s d) ∙ p.rule) in
      delivered_keeps r s.number some there (messages_fit r p.system) h)
      (λ d. moved_keeps P (written k) r (task_id s.task) (processor_id s.number) h))

  pub step_keeps : (r : System) (s : Step) → P r → P (step r s).system
  step_keeps r s h = step_cases r s (λ o. P o.system) (λ e. h) (λ e. completed_keeps (performed r s) (performed_keeps r s e h))

  pub steps_keep : (r : System) (ss : List Step) → P r → P (steps r ss).system
  unfolding steps_by
  steps_keep r [] h = h
  steps_keep r (s ∷ ss) h = steps_keep (step r s).system ss (step_keeps r s h)

-- the mail, until the letters of a step join it
module _ (n : Network) where
  mail_written : Written (λ q. q.network ≡ n)
  mail_written =
      record {
        task = λ q t x h. with_task_network q t x ∙ h;
        cell = λ q d c x h. with_cell_network q d c x ∙ h;
        parent = λ q d t e h. with_parent_network q d t e ∙ h;
      }

pub ran_network : (r : System) (t : TaskId) → (ran r t).system.network ≡ r.network
ran_network r t = ran_keeps _ (mail_written r.network) r t refl

pub opened_network : (r : System) (m : Message) → (opened r m).system.network ≡ r.network
opened_network r m = opened_keeps _ (mail_written r.network) r m refl

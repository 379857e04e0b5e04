-- The verdict on a run whose instruction is a send or a receive is the verdict on that, which can be carried out.
use mathlib.Core.Path.{◌≡◌, refl}
use mathlib.Core.Bool.{true}
use Prim.Native.Nat.{ℕ, ◌-◌, ◌≤◌, ◌<◌}
use native.Mathlib.Omega.{arith}
use borrow.Author.Tests.{ne_eqb}
use Rattle.base.specs.Choice.{within}
use Rattle.base.proofs.Tests.{within_low, within_high}
use Rattle.plan.specs.declared.TaskId.{TaskId}
use Rattle.rules.specs.declared.task.TaskState.TheVariants.{Ready}
use Rattle.rules.specs.declared.system.TaskTable.{TaskTable}
use Rattle.rig_parts.specs.declared.kept.Kept.{Kept}
use Rattle.rules.specs.Numbers.{channel_id}
use Rattle.rules.specs.Tasks.{is_in}
use Rattle.rules.specs.Systems.{read_channel, task_in}
use Rattle.rig_parts.specs.Facts.{Facts, PartsOf}
use Rattle.rig_parts.specs.Fetches.{cell_of, site_in}
use Rattle.rig_parts.specs.Scopes.{run_scope, named_in}
use Rattle.rig_parts.specs.RunVerdicts.{run_refusal, judged_run, ran_in, run_change, send_in}
use Rattle.rig_parts.proofs.BoundsParts.{count_few, used_few, place_few, sender_few, receiver_few}
use Rattle.rig_parts.proofs.BoundsReady.{next_at, place_some, place_last, processor_in, argument_ok_lem}
use Rattle.rig_parts.proofs.BoundsScope.{scope_reached}
use Rattle.board.specs.Lent.{AtCell}
use Rattle.steps.specs.instruction.Sends.{CanSend, send_verdict}
use Rattle.steps.specs.instruction.Receives.{CanReceive, receive_scope, receive_verdict}

module _ {f : Facts} {n : ℕ} {ts : TaskTable} {s : Kept} {used : ℕ} (p : PartsOf f n ts s used) (t : TaskId)
    (w : within 1 f.tasks t.0 ≡ true) (ready : is_in Ready (task_in ts t) ≡ true) where
  -- the argument of the next instruction
  abbrev c : ℕ
  c = (next_at f ts t).operand

  -- a task of the rig
  task_few : (u : TaskId) → u.0 ≤ f.tasks → u.0 ≤ 64
  task_few u h = omega (arith, count_few p)

  -- it is a channel, at a desk
  at_cell_lem : within 1 128 c ≡ true → AtCell (task_in ts t).processor (channel_id c)
  at_cell_lem named =
      let d = (task_in ts t).processor.0 in
      record {
        processor_low = within_low 1 6 d (processor_in p t w ready);
        processor = within_high 1 6 d (processor_in p t w ready);
        channel_low = within_low 1 128 c named;
        channel = within_high 1 128 c named;
      }

  module _ (send : (next_at f ts t).opcode ≡ 4) where
    -- the verdict on a send
    pub send_judged : judged_run f n ts s used t ≡ send_verdict f.codes f.numbers f.receivers n used ts s.store t (channel_id c)
    unfolding judged_run run_refusal ran_in run_change send_in run_scope site_in
    send_judged = rw (w, ready, send) refl

    -- what a send supposes
    pub send_can : CanSend f.receivers used ts t (channel_id c)
    send_can =
        let u = named_in f.receivers c in
        record {
          messages = used_few p;
          sendable =
              record {
                task_low = within_low 1 f.tasks t.0 w;
                task = task_few t (within_high 1 f.tasks t.0 w);
                receiver = task_few u (receiver_few p c);
                at = at_cell_lem (rw send at (argument_ok_lem p t w ready));
                place_low = place_some p t w ready;
                place = place_last p t w ready;
                receiver_place = place_few p u (receiver_few p c);
              };
        }

  module _ (receive : (next_at f ts t).opcode ≡ 5) where
    -- the verdict on a receive
    pub receive_judged : judged_run f n ts s used t ≡ receive_verdict f.codes f.numbers f.senders n used ts s.store t (channel_id c)
    unfolding judged_run run_refusal ran_in run_change send_in run_scope site_in
    receive_judged = rw (w, ready, receive) refl

    -- it names a channel
    named : within 1 128 c ≡ true
    named = rw receive at (argument_ok_lem p t w ready)

    -- the number called is small
    called_few : (read_channel s.store.channels (c - 1)).granted < 255
    unfolding cell_of
    called_few =
        let high = within_high 1 f.tasks t.0 w in
        let reached = scope_reached p (receive_scope f.senders ts t (channel_id c)) (sender_few p c) high (within_high 1 128 c named) (processor_in p t w ready) in
        let low = within_low 1 128 c named in
        let few : (read_channel s.store.channels (c - 1)).granted ≤ 64 = rw (ne_eqb c 0 (λ z. omega arith)) at reached.called in
        omega arith

    -- what a receive supposes
    pub receive_can : CanReceive f.senders used ts s.store.channels t (channel_id c)
    receive_can =
        let u = named_in f.senders c in
        record {
          messages = used_few p;
          receivable =
              record {
                task_low = within_low 1 f.tasks t.0 w;
                task = task_few t (within_high 1 f.tasks t.0 w);
                sender = task_few u (sender_few p c);
                at = at_cell_lem named;
                place = place_last p t w ready;
                sender_place = place_few p u (sender_few p c);
                called = called_few;
              };
        }

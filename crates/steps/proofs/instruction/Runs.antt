-- A run of a ready task: by the kind of its next instruction, the verdict on it, and that it can be carried out.
use mathlib.Core.Path.{◌≡◌, refl, sym, ap, ◌∙◌, subst}
use mathlib.Core.Bool.{true, ◌||◌}
use mathlib.Core.Logic.{◌≢◌}
use Prim.Native.Nat.{ℕ, ◌≤◌, ◌<◌}
use native.Mathlib.Omega.{arith}
use lib.Dec.{eqb}
use borrow.Author.Tests.{eq-eqb}
use Rattle.base.specs.Choice.{within}
use Rattle.base.proofs.Tests.{within_low, within_high}
use Rattle.plan.specs.declared.TaskId.{TaskId}
use Rattle.plan.specs.declared.Instruction.{Instruction}
use Rattle.plan.specs.Kinds.{op_create, op_sync, op_finish, op_send, op_receive, op_set}
use Rattle.rules.specs.declared.task.Task.{Task}
use Rattle.rules.specs.declared.system.TaskTable.{TaskTable}
use Rattle.rig_parts.specs.declared.kept.Kept.{Kept}
use Rattle.rules.specs.Numbers.{task_id, channel_id}
use Rattle.rules.specs.Local.{sync_rule, set_rule, add_rule}
use Rattle.rules.specs.Systems.{task_in}
use Rattle.rig_parts.specs.Facts.{Facts}
use Rattle.rig_parts.specs.Scopes.{argument_ok}
use Rattle.rig_parts.specs.RunVerdicts.{judged_run}
use Rattle.rig_parts.proofs.BoundsParts.{count_few, used_few, parent_few}
use Rattle.rig_parts.proofs.BoundsReady.{next_at, place_last, processor_in, argument_ok_lem, child_few}
use Rattle.board.specs.Acted.{act_of, plain_act}
use Rattle.steps.specs.instruction.Sends.{CanSend, send_verdict}
use Rattle.steps.specs.instruction.Receives.{CanReceive, receive_verdict}
use Rattle.steps.specs.instruction.Locals.{CanCreate, CanFinish, create_verdict, finish_verdict, alone_verdict}
use Rattle.steps.proofs.instruction.Nexts.{ReadyWith}
use Rattle.steps.proofs.instruction.ByKind.{create_is, sync_is, finish_is, set_is, add_is, plain_is}
use Rattle.steps.proofs.instruction.Judged.{send_judged, send_can, receive_judged, receive_can}

module _ {f : Facts} {n : ℕ} {ts : TaskTable} {s : Kept} {used : ℕ} {t : TaskId} {x : Task} {i : Instruction} (g : ReadyWith f n ts s used t x i) where
  -- the number of the task, and its place
  task_low : 1 ≤ t.0
  task_low = within_low 1 f.tasks t.0 g.counted

  pub task_few : t.0 ≤ 64
  task_few = omega (arith, count_few g.parts, within_high 1 f.tasks t.0 g.counted)

  pub place_few : x.pc < 255
  place_few = rw g.task (omega (arith, place_last g.parts t g.counted g.ready))

  -- the argument of a create, a send or a receive
  named : (k : ℕ) → i.opcode ≡ k → eqb k op_create || (eqb k op_send || eqb k op_receive) ≡ true → within 1 128 i.operand ≡ true
  named k e q =
      let ok = subst (λ (z : Instruction). argument_ok z ≡ true) (sym g.next) (argument_ok_lem g.parts t g.counted g.ready) in
      rw (e, q) at ok

  pub argument_few : (k : ℕ) → i.opcode ≡ k → eqb k op_create || (eqb k op_send || eqb k op_receive) ≡ true → i.operand ≤ 128
  argument_few k e q = within_high 1 128 i.operand (named k e q)

  -- each kind: what it supposes, and the verdict on the run
  pub create_can : i.opcode ≡ op_create → CanCreate t x (task_id i.operand)
  create_can e =
      let w = g.counted in
      let ready = g.ready in
      let processor = processor_in g.parts t w ready in
      record {
        task = task_few;
        child_low = within_low 1 128 i.operand (named op_create e refl);
        child = rw g.next (omega (arith, count_few g.parts, child_few g.parts t w ready (eq-eqb (next_at f ts t).opcode op_create (rw g.next at e))));
        place = place_few;
        processor_low = rw g.task (within_low 1 6 (task_in ts t).processor.0 processor);
        processor = rw g.task (within_high 1 6 (task_in ts t).processor.0 processor);
      }

  pub create_judged : i.opcode ≡ op_create → judged_run f n ts s used t ≡ create_verdict t x (task_id i.operand)
  create_judged e = g.judged ∙ create_is f n ts s used (used_few g.parts) t x g.task i e

  pub sync_judged : i.opcode ≡ op_sync → judged_run f n ts s used t ≡ alone_verdict t x.processor (sync_rule x)
  sync_judged e = g.judged ∙ sync_is f n ts s used (used_few g.parts) t x g.task i e

  pub finish_can : CanFinish f.parents t x
  finish_can =
      let processor = processor_in g.parts t g.counted g.ready in
      record {
        task_low = task_low;
        task = task_few;
        parent = omega (arith, count_few g.parts, parent_few g.parts t.0);
        place = place_few;
        processor_low = rw g.task (within_low 1 6 (task_in ts t).processor.0 processor);
        processor = rw g.task (within_high 1 6 (task_in ts t).processor.0 processor);
      }

  pub finish_judged : i.opcode ≡ op_finish → judged_run f n ts s used t ≡ finish_verdict f.parents n used ts s.parents t x
  finish_judged e = g.judged ∙ finish_is f n ts s used (used_few g.parts) t x g.task i e

  pub sends_can : i.opcode ≡ op_send → CanSend f.receivers used ts t (channel_id i.operand)
  sends_can e = rw g.next (send_can g.parts t g.counted g.ready (rw g.next at e))

  pub sends_judged : i.opcode ≡ op_send → judged_run f n ts s used t ≡ send_verdict f.codes f.numbers f.receivers n used ts s.store t (channel_id i.operand)
  sends_judged e = rw g.next (send_judged g.parts t g.counted g.ready (rw g.next at e))

  pub receives_can : i.opcode ≡ op_receive → CanReceive f.senders used ts s.store.channels t (channel_id i.operand)
  receives_can e = rw g.next (receive_can g.parts t g.counted g.ready (rw g.next at e))

  pub receives_judged : i.opcode ≡ op_receive → judged_run f n ts s used t ≡ receive_verdict f.codes f.numbers f.senders n used ts s.store t (channel_id i.operand)
  receives_judged e = rw g.next (receive_judged g.parts t g.counted g.ready (rw g.next at e))

  pub set_judged : i.opcode ≡ op_set → judged_run f n ts s used t ≡ alone_verdict t x.processor (set_rule x i)
  set_judged e = g.judged ∙ set_is f n ts s used (used_few g.parts) t x g.task i e

  pub add_judged : ((k : ℕ) → 1 ≤ k → k ≤ 6 → i.opcode ≢ k) → judged_run f n ts s used t ≡ alone_verdict t x.processor (add_rule x i)
  add_judged other = g.judged ∙ add_is f n ts s used (used_few g.parts) t x g.task i other

  -- one that posts nothing
  pub plain_judged : i.opcode ≢ op_finish → i.opcode ≢ op_send → i.opcode ≢ op_receive → act_of (judged_run f n ts s used t) ≡ plain_act
  plain_judged a b c = ap act_of g.judged ∙ plain_is f n ts s used (used_few g.parts) t x g.task i a b c

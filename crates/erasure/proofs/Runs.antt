-- A run of a rig without words.
use mathlib.Core.Path.{◌≡◌, refl, ap, ◌∙◌}
use mathlib.Core.Bool.{true}
use mathlib.Core.List.{map}
use Prim.Native.Nat.{◌-◌, ◌≤◌}
use native.Mathlib.Omega.{arith}
use Rattle.plan.specs.declared.TaskId.{TaskId}
use Rattle.plan.specs.declared.ProcessorId.{ProcessorId}
use Rattle.plan.specs.declared.ChannelId.{ChannelId}
use Rattle.plan.specs.declared.Instruction.{Instruction}
use Rattle.plan.specs.Kinds.{op_create, op_send, op_receive}
use Rattle.plan.specs.Programs.{Program}
use Rattle.plan.specs.Users.{sender_of, receiver_of, parent_of}
use Rattle.rules.specs.declared.task.Task.{Task}
use Rattle.rules.specs.declared.rule.Site.{Site}
use Rattle.rules.specs.declared.rule.Outcome.{Outcome}
use Rattle.rules.specs.declared.rule.Finished.{Finished}
use Rattle.rules.specs.declared.system.System.{System}
use Rattle.rules.specs.Numbers.{task_id, channel_id}
use Rattle.rules.specs.Hints.{hint}
use Rattle.rules.specs.Systems.{task_at, with_task, parent_at, with_parent, meaning, task_program}
use Rattle.rules.specs.Places.{next_in, send_number}
use Rattle.rules.specs.Effects.{changed, changed_posting, applied}
use Rattle.rules.specs.Starts.{birth}
use Rattle.rules.specs.Local.{create_rule, sync_rule, finish_rule, set_rule, add_rule}
use Rattle.rules.specs.Send.{send_rule}
use Rattle.rules.specs.Receive.{receive_rule}
use Rattle.rules.specs.Runs.{ran_create, ran_finish, ran_send, ran_receive, executed, next_of, ran}
use Rattle.rules.specs.Erasures.{erased_instruction, erased_task, erased_received, erase}
use Rattle.rules_sound.proofs.Frames.{user_in_lem}
use Rattle.erasure.specs.Erased.{erased_posting, erased_effect}
use Rattle.erasure.proofs.Opcodes.{bare, opcode_map, bare_at}
use Rattle.erasure.proofs.Places.{number_erased, next_erased}
use Rattle.erasure.proofs.Programs.{other_erased, set_erased}
use Rattle.erasure.proofs.Rules.{send_erased, receive_erased, sync_erased, finish_rule_erased, set_rule_erased, add_rule_erased}
use Rattle.erasure.proofs.Sites.{Readable, applied_erased}
use Rattle.erasure.proofs.Systems.{task_erased, with_task_lem, parent_at_lem, with_parent_lem, program_of_lem, sender_erased, receiver_erased, parent_erased, birth_erased}

module _ (r : System) (k : Readable r) (t : TaskId) where
  create_erased : (u : TaskId) → ran_create (erase r) t u ≡ erased_effect (ran_create r t u)
  unfolding ran_create with_task erased_posting erased_received
  create_erased u =
      let x = task_at r t in
      let y = create_rule x u in
      ap (λ (z : Task). changed (birth (with_task (erase r) t (create_rule z u)) u z.processor (hint z.processor z.moves))) (task_erased r t)
      ∙ ap (λ (q : System). changed (birth q u x.processor (hint x.processor x.moves))) (with_task_lem r t y)
      ∙ ap changed (birth_erased (with_task r t y) k.plan u x.processor (hint x.processor x.moves))

  -- a rule of the task's own record
  change_erased : (rule blind : Task → Task) → blind (erased_task (task_at r t)) ≡ erased_task (rule (task_at r t))
      → changed (with_task (erase r) t (blind (task_at (erase r) t))) ≡ erased_effect (changed (with_task r t (rule (task_at r t))))
  unfolding erased_posting erased_received
  change_erased rule blind h =
      ap (λ (z : Task). changed (with_task (erase r) t (blind z))) (task_erased r t)
      ∙ ap (λ (z : Task). changed (with_task (erase r) t z)) h
      ∙ ap changed (with_task_lem r t (rule (task_at r t)))

  -- what a finish leaves is stored
  finished_erased : (u : TaskId) (d : ProcessorId) (o : Finished)
      → changed_posting (with_parent (with_task (with_task (erase r) u (erased_task o.parent)) t (erased_task o.task)) d u o.entry) (erased_posting o.posting)
      ≡ erased_effect (changed_posting (with_parent (with_task (with_task r u o.parent) t o.task) d u o.entry) o.posting)
  unfolding erased_received
  finished_erased u d o =
      let q = with_task r u o.parent in
      rw (with_task_lem r u o.parent, with_task_lem q t o.task, with_parent_lem (with_task q t o.task) d u o.entry) refl

  finish_erased : ran_finish (erase r) t ≡ erased_effect (ran_finish r t)
  unfolding ran_finish
  finish_erased =
      let u = parent_of (meaning r) t in
      let x = task_at r t in
      let d = x.processor in
      rw (parent_erased r k.plan t, task_erased r t, task_erased r u, parent_at_lem r d u, finish_rule_erased t x (task_at r u) (parent_at r d u))
      (finished_erased u d (finish_rule t x (task_at r u) (parent_at r d u)))

  module _ (h : t.0 ≤ r.plan.tasks) where
    run_send : (c : ChannelId) → ran_send (erase r) t c ≡ erased_effect (ran_send r t c)
    unfolding ran_send
    run_send c =
        let g = task_program r t in
        let u = receiver_of (meaning r) c in
        let now : Program → Site → Outcome = λ g x. send_rule x c (send_number g c x.sender.pc) in
        rw (receiver_erased r k.plan c, task_erased r t, program_of_lem r k.plan t)
        (applied_erased r k t u h (user_in_lem r.plan op_receive c.0) c (task_at r t).processor (now g) (now (map erased_instruction g))
        (λ x. rw (number_erased g c x.sender.pc) (send_erased x c (send_number g c x.sender.pc))))

    run_receive : (c : ChannelId) → ran_receive (erase r) t c ≡ erased_effect (ran_receive r t c)
    unfolding ran_receive
    run_receive c =
        let s = sender_of (meaning r) c in
        let g = task_program r s in
        let before : Program → Site → Outcome = λ g x. receive_rule x c (send_number g c (x.sender.pc - 1)) in
        ap (λ (s : TaskId). applied (erase r) s t c (task_at (erase r) t).processor (before (task_program (erase r) s))) (sender_erased r k.plan c)
        ∙ rw (task_erased r t, program_of_lem r k.plan s)
        (applied_erased r k s t (user_in_lem r.plan op_send c.0) h c (task_at r t).processor (before g) (before (map erased_instruction g))
        (λ x. rw (number_erased g c (x.sender.pc - 1)) (receive_erased x c (send_number g c (x.sender.pc - 1)))))

    -- instruction i, and what it is without an argument
    executed_erased : (i : Instruction) → bare i ≡ true → executed (erase r) t (erased_instruction i) ≡ erased_effect (executed r t i)
    unfolding executed
    executed_erased i b =
        opcode_map erased_effect i b
        (λ e. ap (λ (j : Instruction). ran_create (erase r) t (task_id j.operand)) (other_erased i op_create (omega arith) e) ∙ create_erased (task_id i.operand))
        (change_erased sync_rule sync_rule (sync_erased (task_at r t)))
        finish_erased
        (λ e. ap (λ (j : Instruction). ran_send (erase r) t (channel_id j.operand)) (other_erased i op_send (omega arith) e) ∙ run_send (channel_id i.operand))
        (λ e. ap (λ (j : Instruction). ran_receive (erase r) t (channel_id j.operand)) (other_erased i op_receive (omega arith) e) ∙ run_receive (channel_id i.operand))
        (λ e. change_erased (λ x. set_rule x i) (λ x. set_rule x (erased_instruction i)) (set_rule_erased (task_at r t) i (set_erased i e)))
        (λ e. change_erased (λ x. add_rule x i) (λ x. add_rule x (erased_instruction i)) (add_rule_erased (task_at r t) i e))

  pub next_of_lem : next_of (erase r) t ≡ erased_instruction (next_of r t)
  next_of_lem = rw (program_of_lem r k.plan t, task_erased r t) (next_erased (task_program r t) (task_at r t))

  pub ran_erased : t.0 ≤ r.plan.tasks → ran (erase r) t ≡ erased_effect (ran r t)
  unfolding ran next_in
  ran_erased h =
      ap (executed (erase r) t) next_of_lem ∙ executed_erased h (next_of r t) (bare_at (meaning r) k.plan (t.0 - 1) ((task_at r t).pc - 1))

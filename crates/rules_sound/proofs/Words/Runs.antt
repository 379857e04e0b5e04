-- An instruction that keeps the property, and a move, leave good words of good ones; what is received is good.
use mathlib.Core.Path.{◌≡◌, refl}
use mathlib.Core.Bool.{Bool, true, ◌&&◌}
use Prim.Native.Nat.{ℕ, ◌≤◌}
use lib.Dec.{eqb}
use borrow.Author.Tests.{eqb-true}
use Rattle.base.proofs.Choices.{pick_cases, pick_either}
use Rattle.base.proofs.Tests.{within_high}
use Rattle.plan.specs.declared.TaskId.{TaskId}
use Rattle.plan.specs.declared.ProcessorId.{ProcessorId}
use Rattle.plan.specs.declared.ChannelId.{ChannelId}
use Rattle.plan.specs.declared.Instruction.{Instruction}
use Rattle.plan.specs.Kinds.{op_create, op_sync, op_finish, op_send, op_receive, op_set}
use Rattle.plan.specs.Refusals.{instruction_ok}
use Rattle.plan.specs.Users.{parent_of}
use Rattle.plan_laws.proofs.Programs.{send_operand, receive_operand}
use Rattle.plan.specs.declared.Word.{Word as WordOf}
use Rattle.rules.specs.declared.task.Task.{Task}
use Rattle.rules.specs.declared.task.TaskState.TheVariants.{Waiting}
use Rattle.rules.specs.declared.message.Message.TheVariants.{Terminated, Migration}
use Rattle.rules.specs.declared.rule.Finished.{Finished}
use Rattle.rules.specs.declared.system.ParentEntry.{ParentEntry}
use Rattle.rules.specs.declared.system.System.{System}
use Rattle.rules.specs.Numbers.{task_id, channel_id, same_task, same_processor}
use Rattle.rules.specs.Hints.{newer}
use Rattle.rules.specs.Tasks.{is_in, is_at, is_childless, readied, woken, departed}
use Rattle.rules.specs.Systems.{task_at, with_task, meaning}
use Rattle.rules.specs.Effects.{site_at, changed}
use Rattle.rules.specs.Local.{create_rule, sync_rule, finish_rule, set_rule, add_rule}
use Rattle.rules.specs.Moves.{moved}
use Rattle.rules.specs.Runs.{ran_create, ran_finish, ran_send, ran_receive, executed}
use Rattle.rules_sound.specs.Words.{Keeps, task_good, message_good, received_good, GoodPosting, GoodSystem, GoodEffect}
use Rattle.rules_sound.proofs.Words.Postings.{none_good, message_good_lem}
use Rattle.rules_sound.proofs.Words.Rules.{send_good, receive_good}
use Rattle.rules_sound.proofs.Words.Systems.{task_good_lem, put_task, put_parent, put_cells, birth_good, outcome_good}

pub woken_good : (good : WordOf → Bool) (x : Task) → task_good good x ≡ true → task_good good (woken x) ≡ true
unfolding woken
woken_good good x h = pick_either (λ y. task_good good y ≡ true) (is_in Waiting x && is_childless x) (readied x) x h h

-- a finish
record GoodFinished (good : WordOf → Bool) (o : Finished) : Type 0 where
  task : task_good good o.task ≡ true
  parent : task_good good o.parent ≡ true
  posting : GoodPosting good o.posting

finished_good : (good : WordOf → Bool) (t : TaskId) (x y : Task) (e : ParentEntry) → task_good good x ≡ true → task_good good y ≡ true → GoodFinished good (finish_rule t x y e)
unfolding finish_rule message_good
finished_good good t x y e h k =
    let along = newer e.hint x.origin in
    pick_either (GoodFinished good) (same_task t (task_id 1)) _ _ (record { task = h; parent = k; posting = none_good })
    (pick_either (GoodFinished good) (is_at x.processor y) _ _ (record { task = h; parent = woken_good good _ k; posting = none_good })
    (pick_either (GoodFinished good) (same_processor along.processor x.processor) _ _ (record { task = h; parent = k; posting = none_good })
    (record { task = h; parent = k; posting = message_good_lem (Terminated along t) refl })))

module _ {good : WordOf → Bool} where
  -- the rig is changed, and no word passes
  pub changed_good : (r : System) → GoodSystem good r → GoodEffect good (changed r)
  unfolding received_good
  changed_good r h = record { system = h; posting = none_good; received = refl }

  module _ (r : System) (h : GoodSystem good r) (t : TaskId) where
    -- task t is written
    change : (x : Task) → task_good good x ≡ true → GoodEffect good (changed (with_task r t x))
    change x k = changed_good _ (put_task r h t x k)

    create_good : (u : TaskId) → GoodEffect good (ran_create r t u)
    unfolding ran_create
    create_good u = changed_good _ (birth_good _ (put_task r h t (create_rule (task_at r t) u) (task_good_lem r h t)) u _ _)

    sync_good : task_good good (sync_rule (task_at r t)) ≡ true
    unfolding sync_rule
    sync_good = pick_either (λ y. task_good good y ≡ true) (is_childless (task_at r t)) _ _ (task_good_lem r h t) (task_good_lem r h t)

    finish_good : GoodEffect good (ran_finish r t)
    unfolding ran_finish received_good
    finish_good =
        let u = parent_of (meaning r) t in
        let o = finished_good good t (task_at r t) (task_at r u) _ (task_good_lem r h t) (task_good_lem r h u) in
        record { system = put_parent _ (put_task _ (put_task r h u _ o.parent) t _ o.task) _ u _; posting = o.posting; received = refl }

    send_effect : (c : ChannelId) → c.0 ≤ 128 → GoodEffect good (ran_send r t c)
    unfolding ran_send site_at
    send_effect c l = outcome_good r h t _ c _ _ (send_good c (site_at r t _ c _) (task_good_lem r h t) (task_good_lem r h _) _ l)

    receive_effect : (c : ChannelId) → c.0 ≤ 128 → GoodEffect good (ran_receive r t c)
    unfolding ran_receive site_at
    receive_effect c l = outcome_good r h _ t c _ _ (receive_good c (site_at r _ t c _) (task_good_lem r h _) (task_good_lem r h t) _ l)

    -- instruction i, in a plan of n tasks
    pub executed_good : (n : ℕ) (i : Instruction) → instruction_ok n i ≡ true → Keeps good i → GoodEffect good (executed r t i)
    unfolding executed
    executed_good n i fine keeps =
        let x = task_at r t in
        let word = task_good_lem r h t in
        let channel = channel_id i.operand in
        pick_either (GoodEffect good) (eqb i.opcode op_create) _ _ (create_good (task_id i.operand))
        (pick_either (GoodEffect good) (eqb i.opcode op_sync) _ _ (change (sync_rule x) sync_good)
        (pick_either (GoodEffect good) (eqb i.opcode op_finish) _ _ finish_good
        (pick_cases (GoodEffect good) (eqb i.opcode op_send) _ _
        (λ e. send_effect channel (within_high 1 128 i.operand (send_operand n i fine (eqb-true i.opcode op_send e))))
        (λ e.
        pick_cases (GoodEffect good) (eqb i.opcode op_receive) _ _
        (λ e. receive_effect channel (within_high 1 128 i.operand (receive_operand n i fine (eqb-true i.opcode op_receive e))))
        (λ e.
        pick_either (GoodEffect good) (eqb i.opcode op_set) _ _ (change (set_rule x i) (keeps.set x.word word))
        (change (add_rule x i) (keeps.add x.word word)))))))

    pub moved_good : (e : ProcessorId) → GoodEffect good (moved r t e)
    unfolding moved received_good message_good
    moved_good e =
        record {
          system = put_cells 128 _ _ _ _ (put_cells 128 _ _ _ _ (put_parent _ (put_task r h t (departed (task_at r t)) (task_good_lem r h t)) _ t _));
          posting = message_good_lem (Migration e t) refl;
          received = refl;
        }

-- A rig without words is not refused by 9 where the rig is not.
use mathlib.Core.Path.{◌≡◌, refl, ap, sym, subst, ◌∙◌}
use mathlib.Core.Bool.{Bool, true, false, not}
use mathlib.Core.List.{map}
use mathlib.Core.Logic.{by_cases}
use Prim.Native.Nat.{ℕ, suc, ◌^◌}
use native.Mathlib.Decide.{ℕ_discrete}
use native.Mathlib.Omega.{arith}
use lib.Dec.{eqb, ltb}
use lib.ListN.{length-map, get_or}
use borrow.Author.Tests.{eqb-true}
use Rattle.base.specs.Lists.{every}
use Rattle.base.proofs.Folds.{fold_same}
use Rattle.base.proofs.SetsOf.{set_same}
use Rattle.base.proofs.Tests.{and_both, up_to_at, below_all}
use Rattle.plan.specs.declared.TaskId.{TaskId}
use Rattle.plan.specs.Programs.{Program}
use Rattle.plan.specs.Answers.{is_accepted}
use Rattle.plan.specs.Refusals.{plan_answer}
use Rattle.plan.specs.Words.{word_numbers}
use Rattle.plan_laws.proofs.Answers.{and_parts}
use Rattle.rules.specs.declared.task.Task.{Task}
use Rattle.rules.specs.declared.task.TaskState.TheVariants.{Unborn}
use Rattle.rules.specs.declared.message.Message.{Message}
use Rattle.rules.specs.declared.message.Message.TheVariants.{Empty, Offered, Advert, ReadyToReceive, Data, Terminated, Migration}
use Rattle.rules.specs.declared.message.Network.{Network}
use Rattle.rules.specs.declared.system.TaskTable.{TaskTable}
use Rattle.rules.specs.declared.system.System.{System}
use Rattle.rules.specs.Numbers.{task_id, processor_id, is_none}
use Rattle.rules.specs.Tasks.{is_in, state_number}
use Rattle.rules.specs.Networks.{messages}
use Rattle.rules.specs.Places.{last_in}
use Rattle.rules.specs.Systems.{is_ready_at, task_in, task_at, task_program, meaning}
use Rattle.rules.specs.Sound.{message_ok, network_ok, unborn_ok, last_ok, born_ok, task_ok, origin_ok, parents_ok, ready_ok, chosen_ok, system_ok}
use Rattle.rules.specs.Erasures.{erased_instruction, erased_task, erased_tasks, erased_message, erased_network, erase}
use Rattle.rules_laws.proofs.Sound.{task_ok_in, origin_ok_in, SystemPassed, system_passed, system_ok_lem}
use Rattle.rules_laws.proofs.TaskAt.{task_at_none}
use Rattle.rules_sound.proofs.Born.{born_passed}
use Rattle.rules_sound.proofs.Sound.{accepted_is}
use Rattle.erasure.proofs.Lists.{every_map, pick_follows}
use Rattle.erasure.proofs.Networks.{messages_erased}
use Rattle.erasure.proofs.Places.{last_erased}
use Rattle.erasure.proofs.Plans.{plan_erased}
use Rattle.erasure.proofs.Programs.{kind_erased}
use Rattle.erasure.proofs.Sites.{Readable}
use Rattle.erasure.proofs.Systems.{task_erased, tasks_same, means, program_of_lem}
use Rattle.erasure.proofs.Tasks.{task_read}

-- a letter, and the mail
message_erased : (n m : ℕ) (x : Message) → message_ok n m (erased_message x) ≡ message_ok n m x
unfolding message_ok erased_message
message_erased n m Empty = refl
message_erased n m (Offered c o h) = refl
message_erased n m (Advert c d from) = refl
message_erased n m (ReadyToReceive c d h) = refl
message_erased n m (Data c d w) = refl
message_erased n m (Terminated h t) = refl
message_erased n m (Migration d t) = refl

network_erased : (n m : ℕ) (x : Network) → network_ok n m (erased_network x) ≡ network_ok n m x
unfolding network_ok
network_erased n m x =
    rw (messages_erased x, every_map erased_message (message_ok n m) (message_ok n m) (messages x) (message_erased n m)) refl

-- the sets of ready tasks
ready_erased : (m : ℕ) (ts : TaskTable) → ready_ok m (erased_tasks ts) ≡ ready_ok m ts
unfolding ready_ok
ready_erased m ts =
    fold_same _ _ 6 _ _
    (λ k l.
    ap (eqb (get_or ts.ready k 0))
    (set_same (λ t. is_ready_at (processor_id (suc k)) (task_in (erased_tasks ts) (task_id t))) (λ t. is_ready_at (processor_id (suc k)) (task_in ts (task_id t))) m
    (λ t low high. ap (is_ready_at (processor_id (suc k))) (task_read ts (task_id t)))))

-- a task
module _ (n m : ℕ) (g : Program) (x : Task) where
  last_same : last_ok (map erased_instruction g) (erased_task x) ≡ last_ok g x
  last_same = rw (last_erased g x, kind_erased (last_in g x)) refl

  born_erased : born_ok n (map erased_instruction g) (erased_task x) ≡ born_ok n g x
  unfolding born_ok
  born_erased = rw (length-map g erased_instruction, last_same) refl

  unborn_erased : unborn_ok x ≡ true → unborn_ok (erased_task x) ≡ true
  unfolding unborn_ok every
  unborn_erased h =
      let (d, h₁) = and_parts (is_none x.processor) _ h in
      let (place, h₂) = and_parts (eqb x.pc 1) _ h₁ in
      let (word, h₃) = and_parts (every (eqb 0) (word_numbers x.word)) _ h₂ in
      let (mark, count) = and_parts (not x.overflow) _ h₃ in
      and_both _ _ d (and_both _ _ place count)

  task_ok_erased : task_ok n m g x ≡ true → task_ok n m (map erased_instruction g) (erased_task x) ≡ true
  unfolding task_ok
  task_ok_erased h =
      let (children, rest) = and_parts (ltb x.children (2 ^ m)) _ h in
      and_both _ _ children
      (pick_follows (is_in Unborn x) (unborn_ok x) (born_ok n g x) (unborn_ok (erased_task x)) (born_ok n (map erased_instruction g) (erased_task x)) unborn_erased
      (λ e. born_erased ∙ e) rest)

  origin_erased : (t : ℕ) → origin_ok n t (erased_task x) ≡ origin_ok n t x
  unfolding origin_ok
  origin_erased t = refl

  -- it has last executed a send or a receive where it sends or receives
  last_fine : task_ok n m g x ≡ true → last_ok g x ≡ true
  last_fine h = go (is_in Unborn x) refl
    where
      go : (b : Bool) → is_in Unborn x ≡ b → last_ok g x ≡ true
      go true e = rw (eqb-true (state_number x.state) 0 e) refl
      go false e = (born_passed n m g x h e).last

module _ (r : System) (ok : system_ok r ≡ true) where
  passed : SystemPassed r
  passed = system_passed r ok

  pub readable : Readable r
  readable =
      record {
        plan = accepted_is (plan_answer (meaning r)) passed.plan;
        last = λ t h.
            by_cases (ℕ_discrete t.0 0)
            (λ (e : t.0 ≡ 0). subst (λ (u : TaskId). last_ok (task_program r u) (task_at r u) ≡ true) (sym (ap task_id e)) (rw (task_at_none r) refl))
            (λ ne. last_fine r.processors r.plan.tasks (task_program r t) (task_at r t) (up_to_at (task_ok_in r) r.plan.tasks t.0 (omega arith) h passed.tasks));
      }

  pub system_erased : system_ok (erase r) ≡ true
  unfolding erase
  system_erased =
      let n = r.processors in
      let m = r.plan.tasks in
      let a = readable.plan in
      let same = tasks_same r in
      system_ok_lem (erase r)
      (record {
        processors = passed.processors;
        plan = ap (λ g. is_accepted (plan_answer g)) (means r a) ∙ ap is_accepted (plan_erased (meaning r) a);
        tasks =
            below_all (λ i. task_ok_in (erase r) (suc i)) (erase r).plan.tasks
            (λ i l.
            let t = task_id (suc i) in
            let g = task_program r t in
            ap (λ k. task_ok n k (task_program (erase r) t) (task_at (erase r) t)) same
            ∙ ap (λ h. task_ok n m h (task_at (erase r) t)) (program_of_lem r a t)
            ∙ ap (task_ok n m (map erased_instruction g)) (task_erased r t)
            ∙ task_ok_erased n m g (task_at r t) (up_to_at (task_ok_in r) m (suc i) (omega arith) (omega (arith, l, same)) passed.tasks));
        origins =
            below_all (λ i. origin_ok_in (erase r) (suc i)) (erase r).plan.tasks
            (λ i l.
            let t = task_id (suc i) in
            ap (origin_ok n (suc i)) (task_erased r t)
            ∙ origin_erased n m (task_program r t) (task_at r t) (suc i)
            ∙ up_to_at (origin_ok_in r) m (suc i) (omega arith) (omega (arith, l, same)) passed.origins);
        tables = passed.tables;
        channels = passed.channels;
        parents = ap (λ k. parents_ok n k r.parents) same ∙ passed.parents;
        ready = ap (λ k. ready_ok k (erased_tasks r.tasks)) same ∙ ready_erased m r.tasks ∙ passed.ready;
        chosen = ap (λ k. chosen_ok k r.chosen) same ∙ passed.chosen;
        network = ap (λ k. network_ok n k (erased_network r.network)) same ∙ network_erased n m r.network ∙ passed.network;
      })

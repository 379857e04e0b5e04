-- Every accepted run and every accepted delivery makes the measure of the rig smaller; a run executes one instruction, and nothing else does.
use mathlib.Core.Path.{◌≡◌, refl}
use mathlib.Core.List.{List}
use Prim.Native.Nat.{suc, ◌+◌, ◌*◌, ◌≤◌}
use native.Mathlib.Omega.{arith}
use lib.ListN.{length}
use Rattle.std.specs.Prelude.{Ok}
use Rattle.base.proofs.Sums.{sum_le, sum_scaled}
use Rattle.plan.specs.declared.ChannelId.{ChannelId}
use Rattle.plan.specs.declared.Word.{Word}
use Rattle.plan.specs.Numbers.{channel_id, task_id}
use Rattle.plan.specs.Programs.{Programs}
use Rattle.rules.specs.Reports.{Received}
use Rattle.rules.specs.Tasks.{departed}
use Rattle.net.specs.States.{Net}
use Rattle.channel.specs.Measure.{measure}
use Rattle.channel.proofs.Measure.{bounded}
use Rattle.transitions.specs.Readings.{Reading}
use Rattle.transitions.specs.Progress.{unexecuted}
use Rattle.transitions.specs.Messages.{messages_on, ended_of}
use Rattle.transitions.specs.Views.{Histories, view_of}
use Rattle.transitions.specs.Transitions.{MoveTransition, RunTransition, transfers, owns, creates, finishes, DeliverTransition, delivers, ends, arrives}
use Rattle.transitions.specs.Agreement.{Running}
use Rattle.invariant.specs.Weights.{channel_count, weight_of, task_weight}
use Rattle.invariant.proofs.Work.{Went, nobody, places_same}
use Rattle.invariant.proofs.TaskMessages.{few_messages, task_messages}
use Rattle.invariant.proofs.ChannelFalls.{split, viewed, seen, Less, transfer_less, delivery_less}
use Rattle.invariant.proofs.TaskFalls.{own_less, create_less, finish_less, ended_less, arrival_less}
use Rattle.plan.specs.Refusals.{plan_answer}
use Rattle.plan.specs.declared.TaskId.{TaskId}
use Rattle.plan.specs.Users.{parent_of}
use native.Mathlib.Nat.{mul-le-mul_right}
use Rattle.invariant.proofs.TaskWeights.{ended_most}

module _ (m : Programs) (accepted : plan_answer m ≡ Ok tt) {h : Histories} {s : Net} {x : Reading} {w : ChannelId → List Word}
    (run : Running m h s x w) where
  -- by each act
  pub run_less : {h' : Histories} {y : Reading} {got : Received} → RunTransition m h x h' y got → Less m h h' x y 1
  run_less (transfers e transition) = transfer_less m run e transition
  run_less (owns transition) = own_less m accepted run transition
  run_less (creates transition) = create_less m accepted run transition
  run_less (finishes transition) = finish_less m accepted run transition

  pub deliver_less : {y : Reading} {got : Received} → DeliverTransition m h x y got → Less m h h x y 0
  deliver_less (delivers p a transition) = delivery_less m run p a transition
  deliver_less (ends transition) = ended_less m accepted run transition
  deliver_less (arrives transition) = arrival_less m accepted run transition

  pub move_places : {h' : Histories} {y : Reading} → MoveTransition m h h' x y → Went m x.tasks y.tasks 0
  move_places {h'} {y} transition =
      nobody (λ u is. places_same x.tasks y.tasks transition.task (departed (x.tasks transition.task)) transition.tasks refl u)

  -- the measure is at most ten for each instruction not executed and each letter under way
  pub few_left : weight_of m h x ≤ 10 * (unexecuted m x.tasks + length x.messages)
  few_left =
      let each =
      sum_le channel_count (λ k. measure (view_of m h x (channel_id (suc k)))) (λ k. 10 * length (messages_on (channel_id (suc k)) x.messages))
      (λ k l. light (channel_id (suc k))) in
      let others =
      sum_le (length m) (λ k. task_weight m h x (task_id (suc k))) (λ k. 10 * task_messages x.messages (task_id (suc k))) (λ k l. few (task_id (suc k))) in
      let task-tens = sum_scaled 10 (length m) (λ k. task_messages x.messages (task_id (suc k))) in
      let tens = sum_scaled 10 channel_count (λ k. length (messages_on (channel_id (suc k)) x.messages)) in
      omega (arith, split m h x, each, tens, others, task-tens, few_messages (length m) x.messages)
    where
      few : (t : TaskId) → task_weight m h x t ≤ 10 * task_messages x.messages t
      few t =
          let p = parent_of m t in
          let most = ended_most (h p) (x.tasks p).moves x.processors (ended_of t x.messages) in
          let seven = mul-le-mul_right (length (ended_of t x.messages)) (let l : suc x.processors ≤ 7 = omega (arith, run.few) in l) in
          omega (arith, most, seven)

      light : (c : ChannelId) → measure (view_of m h x c) ≤ 10 * length (messages_on c x.messages)
      light c = rw (← seen m h x c) (bounded (view_of m h x c) (rw (viewed m h x c) run.few))

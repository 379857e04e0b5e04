-- "Deliver: one letter, by its position from 1".
use Rattle.std.specs.Prelude.{ℕ, Ok, Err}
use Rattle.base.specs.Choice.{pick, unless, within}
use Rattle.plan.specs.declared.TaskId.{TaskId}
use Rattle.plan.specs.declared.ProcessorId.{ProcessorId}
use Rattle.plan.specs.declared.ChannelId.{ChannelId}
use Rattle.plan.specs.Users.{sender_of, receiver_of, parent_of}
use Rattle.rules.specs.declared.task.TaskState.TheVariants.{Moving}
use Rattle.rules.specs.declared.channel.Hint.{Hint}
use Rattle.rules.specs.declared.message.Message.{Message}
use Rattle.rules.specs.declared.message.Message.TheVariants.{Empty, Offered, Advert, ReadyToReceive, Data, Terminated, Migration}
use Rattle.rules.specs.declared.rule.Site.{Site}
use Rattle.rules.specs.declared.rule.Outcome.{Outcome}
use Rattle.rules.specs.Answers.{StepAnswer}
use Rattle.rules.specs.declared.step.StepRefusal.TheVariants.{NoMessage}
use Rattle.rules.specs.declared.system.System.{System}
use Rattle.rules.specs.Tasks.{is_in}
use Rattle.rules.specs.Networks.{message_at, dequeued}
use Rattle.rules.specs.Systems.{with_network, task_at, with_task, parent_at, with_parent, meaning}
use Rattle.rules.specs.Effects.{Effect, changed, changed_posting, applied}
use Rattle.rules.specs.Offers.{offer_rule, advert_rule}
use Rattle.rules.specs.Calls.{call_rule, data_rule}
use Rattle.rules.specs.Arrivals.{terminated_rule, arrival}

-- a rule about channel c at d, between the channel's two ends
abbrev pub on_channel : System → ChannelId → ProcessorId → (Site → Outcome) → Effect
on_channel r c d rule = applied r (sender_of (meaning r) c) (receiver_of (meaning r) c) c d rule

-- an ended letter for child t, which came along the pointer h; a mover letter, which supposes "a moving task"
unfoldable pub got_terminated : System → Hint → TaskId → Effect
got_terminated r h t =
    let p = parent_of (meaning r) t in
    let d = h.processor in
    let o = terminated_rule (task_at r p) (parent_at r d p) h t in
    changed_posting (with_parent (with_task r p o.parent) d p o.entry) o.posting

unfoldable pub got_migration : System → ProcessorId → TaskId → System
got_migration r d t = pick (is_in Moving (task_at r t)) (arrival r t d) r

-- what a letter does where it goes to; the mail has it no more
unfoldable pub opened : System → Message → Effect
opened r Empty = changed r
opened r (Offered c o h) = on_channel r c h.processor (λ x. offer_rule x c o h)
opened r (Advert c d from) = on_channel r c d (λ x. advert_rule x c d from)
opened r (ReadyToReceive c d h) = on_channel r c d (λ x. call_rule x c d h)
opened r (Data c d w) = on_channel r c d (λ x. data_rule x c d w)
opened r (Terminated h t) = got_terminated r h t
opened r (Migration d t) = changed (got_migration r d t)

-- a delivery of the letter at position p
unfoldable pub delivered : System → ℕ → Effect
delivered r p = opened (with_network r (dequeued r.network p)) (message_at r.network p)

-- "Deliver: 14, no letter there."
unfoldable pub deliver_answer : System → ℕ → StepAnswer
deliver_answer r p = unless (within 1 r.network.used p) (Err NoMessage) (Ok tt)

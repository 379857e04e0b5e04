-- `depends_on`: by the task's state.
use mathlib.Core.Path.{◌≡◌, refl, ap, ◌∙◌}
use mathlib.Core.Bool.{false}
use mathlib.Core.Logic.{◌≢◌}
use lib.Dec.{eqb}
use Rattle.rules.specs.declared.task.TaskState.{TaskState}
use Rattle.rules.specs.declared.task.TaskState.TheVariants.{Unborn, Ready, Waiting, Sending, Receiving, Moving, Done}
use Rattle.rules.specs.Numbers.{task_id}
use Rattle.rules.specs.Tasks.{state_number}
use Rattle.rig_parts.specs.Scopes.{named_in}
use Rattle.plan_index.specs.user_table.Users.{senders_of, receivers_of}
use Rattle.finish.specs.Answers.{depends_in}
use Rattle.finish.proofs.stuck.depends_on.Goals as goal

-- a state that is neither
neither : (s : TaskState) → s ≢ Sending → s ≢ Receiving → (eqb (state_number s) 3 ≡ false) × (eqb (state_number s) 4 ≡ false)
neither Unborn a b = (refl, refl)
neither Ready a b = (refl, refl)
neither Waiting a b = (refl, refl)
neither Sending a b = absurd (a refl)
neither Receiving a b = absurd (b refl)
neither Moving a b = (refl, refl)
neither Done a b = (refl, refl)

pub returns-in-Sending : goal.returns-in-Sending
unfolding depends_in
returns-in-Sending c = rw c.in-Sending.is (c.receiver.ensures ∙ ap (named_in (receivers_of c.args.users.now)) c.last_channel.ensures.0)

pub returns-in-Receiving : goal.returns-in-Receiving
unfolding depends_in
returns-in-Receiving c = rw c.in-Receiving.is (c.sender.ensures ∙ ap (named_in (senders_of c.args.users.now)) c.last_channel-in-Receiving.ensures.0)

pub returns-in_default : goal.returns-in_default
unfolding depends_in
returns-in_default c =
    let no = neither c.args.x.state c.in_default.not-Sending c.in_default.not-Receiving in
    rw (no.0, no.1) (ap task_id c.lowest_child.ensures)

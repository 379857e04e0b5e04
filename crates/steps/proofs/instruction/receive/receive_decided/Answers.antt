-- `receive_decided`: what a receive of task t on channel c would say and post.
use Rattle.rig_parts.specs.declared.sweep.Sweep.TheVariants.{Nothing}
use Rattle.plan_index.specs.user_table.Users.{senders_of}
use Rattle.board.specs.Lent.{tasks_on}
use Rattle.steps.specs.instruction.Receives.{receive_scope}
use Rattle.steps.proofs.instruction.Decided.{decided}
use Rattle.steps.proofs.instruction.Receiving.{receive_kept}
use borrow.Author.Rules.{rules}
use Rattle.steps.proofs.instruction.receive.receive_decided.Goals as goal

pub returns : goal.returns
returns c =
    let s = c.args in
    let some = c.requires.receivable.at.channel_low in
    let k = receive_scope (senders_of s.users.now) (tasks_on s.board.now) s.t s.c in
    λ hp hm op on.
    decided s.n.processors s.n.used k c.receive_outcome-o.result
    (receive_kept s.codes.now s.numbers.now (senders_of s.users.now) s.notes.now s.board.now s.t s.c some hp hm op on c.receive_outcome-o.ensures)
    (c.fitted.ensures k Nothing)

-- `send_decided`: what a send of task t on channel c would say and post.
use Rattle.rig_parts.specs.declared.sweep.Sweep.TheVariants.{Nothing}
use Rattle.plan_index.specs.user_table.Users.{receivers_of}
use Rattle.board.specs.Lent.{tasks_on}
use Rattle.steps.specs.instruction.Sends.{send_scope}
use Rattle.steps.proofs.instruction.Decided.{decided}
use Rattle.steps.proofs.instruction.Sending.{send_noted}
use borrow.Author.Rules.{rules}
use Rattle.steps.proofs.instruction.send.send_decided.Goals as goal

pub returns : goal.returns
returns c =
    let s = c.args in
    let some = c.requires.sendable.at.channel_low in
    let k = send_scope (receivers_of s.users.now) (tasks_on s.board.now) s.t s.c in
    λ notes.
    decided s.n.processors s.n.used k c.send_outcome-o.result
    (send_noted s.codes.now s.numbers.now (receivers_of s.users.now) s.hintprocessors.now s.hintmoves.now s.heldprocessors.now s.heldnumbers.now s.board.now s.t s.c some notes c.send_outcome-o.ensures)
    (c.fitted.ensures k Nothing)

-- `receive_outcome`: what a receive of task t on channel c leaves, with no pointer and no held offer: they are not seen, and stay.
use Prim.Native.Nat.{◌≤◌}
use native.Mathlib.Omega.{arith}
use Rattle.plan_index.specs.user_table.Users.{senders_of}
use Rattle.steps.proofs.instruction.Receiving.{receive_fetched}
use borrow.Author.Rules.{rules}
use Rattle.steps.proofs.instruction.receive.receive_outcome.Goals as goal

pub task_at-a-requires : goal.task_at-a-requires
task_at-a-requires c = rw c.sender-u.ensures c.requires.sender

pub note_at-noted-requires : goal.note_at-noted-requires
note_at-noted-requires c = rw c.task_at-b.ensures c.requires.at

pub is_on-sending-requires : goal.is_on-sending-requires
is_on-sending-requires c = (rw c.sender-u.ensures c.requires.sender, rw (c.task_at-a.ensures, c.sender-u.ensures) c.requires.sender_place)

pub last_number-w-requires : goal.last_number-w-requires
last_number-w-requires c = (rw c.sender-u.ensures c.requires.sender, rw (c.task_at-a.ensures, c.sender-u.ensures) c.requires.sender_place)

pub receive_rule-requires : goal.receive_rule-requires
receive_rule-requires c =
    let place : c.task_at-b.result.pc ≤ 64 = rw c.task_at-b.ensures c.requires.place in
    (omega (arith, place), rw (c.cell_of-cell.ensures, c.channel_at-channel.ensures) c.requires.called)

pub returns : goal.returns
returns c =
    let s = c.args in
    receive_fetched s.codes.now s.numbers.now (senders_of s.users.now) s.notes.now s.board.now s.t s.c c.requires.at.channel_low
    c.task_at-b.ensures c.sender-u.ensures c.task_at-a.ensures c.note_at-noted.ensures c.channel_at-channel.ensures
    c.is_on-sending.ensures c.unknown-hint.ensures c.no_offer-held.ensures c.cell_of-cell.ensures c.last_number-w.ensures
    c.receive_rule.ensures

-- `send_outcome`: what a send of task t on channel c leaves, with nothing noted: the note is not seen, and stays.
use mathlib.Core.Path.{refl}
use Prim.Native.Nat.{◌≤◌}
use native.Mathlib.Omega.{arith}
use Rattle.plan_index.specs.user_table.Users.{receivers_of}
use Rattle.steps.proofs.instruction.Sending.{send_fetched}
use borrow.Author.Rules.{rules}
use Rattle.steps.proofs.instruction.send.send_outcome.Goals as goal

pub task_at-b-requires : goal.task_at-b-requires
task_at-b-requires c = rw c.receiver-u.ensures c.requires.receiver

pub hint_at-hint-requires : goal.hint_at-hint-requires
hint_at-hint-requires c = rw c.task_at-a.ensures c.requires.at

pub held_at-held-requires : goal.held_at-held-requires
held_at-held-requires c = rw c.task_at-a.ensures c.requires.at

pub is_on-receiving-requires : goal.is_on-receiving-requires
is_on-receiving-requires c = (rw c.receiver-u.ensures c.requires.receiver, rw (c.task_at-b.ensures, c.receiver-u.ensures) c.requires.receiver_place)

pub overflow_sub-at-2 : goal.overflow_sub-at-2
overflow_sub-at-2 c = let place : (1 ≤ c.task_at-a.result.pc) × (c.task_at-a.result.pc ≤ 64) = rw c.task_at-a.ensures (c.requires.place_low, c.requires.place) in omega (arith, place)

pub overflow_add-at : goal.overflow_add-at
overflow_add-at c =
    let place : (1 ≤ c.task_at-a.result.pc) × (c.task_at-a.result.pc ≤ 64) = rw c.task_at-a.ensures (c.requires.place_low, c.requires.place) in
    omega (arith, place, c.requires.task_low, c.requires.task)

pub bounds-numbers-at : goal.bounds-numbers-at
bounds-numbers-at c =
    let place : (1 ≤ c.task_at-a.result.pc) × (c.task_at-a.result.pc ≤ 64) = rw c.task_at-a.ensures (c.requires.place_low, c.requires.place) in
    omega (arith, place, c.requires.task_low, c.requires.task)

pub send_rule-requires : goal.send_rule-requires
send_rule-requires c = let place : (1 ≤ c.task_at-a.result.pc) × (c.task_at-a.result.pc ≤ 64) = rw c.task_at-a.ensures (c.requires.place_low, c.requires.place) in omega (arith, place)

pub returns : goal.returns
returns c =
    let s = c.args in
    send_fetched s.codes.now s.numbers.now (receivers_of s.users.now) s.hintprocessors.now s.hintmoves.now s.heldprocessors.now s.heldnumbers.now s.board.now s.t s.c c.requires.at.channel_low
    c.task_at-a.ensures c.receiver-u.ensures c.task_at-b.ensures c.hint_at-hint.ensures c.held_at-held.ensures
    c.channel_at-channel.ensures c.is_on-receiving.ensures c.cell_of-cell.ensures refl refl
    c.send_rule.ensures

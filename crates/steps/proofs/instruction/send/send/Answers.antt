-- `send`: a send of task t on channel c.
use mathlib.Core.Path.{◌≡◌, refl, ◌∙◌}
use borrow.Author.Tests.{not-true, not-false}
use Rattle.plan_index.specs.user_table.Users.{receivers_of}
use Rattle.board.specs.Lent.{lent, tasks_on}
use Rattle.board.proofs.Stores.{held_stored}
use Rattle.board.proofs.Acts.{none_fits, all_stored}
use Rattle.steps.specs.instruction.Sends.{send_scope}
use Rattle.steps.proofs.instruction.Sending.{send_noted, send_hint, send_processor}
use Rattle.steps.proofs.instruction.Stored.{both_stored}
use borrow.Author.Rules.{rules}
use Rattle.rig_parts.specs.declared.sweep.Sweep.TheVariants.{Nothing}
use Rattle.rules.specs.Systems.{task_in}
use Rattle.steps.proofs.instruction.send.send.Goals as goal

pub returns-then-not-fits : goal.returns-then-not-fits
returns-then-not-fits c =
    let s = c.args in
    let g = c.requires.1.sendable in
    let k = send_scope (receivers_of s.users.now) (tasks_on s.board.now) s.t s.c in
    λ senders notes.
    none_fits s.n.processors s.n.used k senders (receivers_of s.users.now)
    (send_noted s.codes.now s.numbers.now (receivers_of s.users.now) s.hintprocessors.now s.hintmoves.now s.heldprocessors.now s.heldnumbers.now s.board.now s.t s.c g.at.channel_low notes c.send_outcome-o.ensures)
    c.fits.ensures Nothing (not-true c.fits.result c.if-not-fits.true-raw) c.refused.ensures c.requires.0

pub put_task-requires-2 : goal.put_task-requires-2
put_task-requires-2 c = (rw c.receiver-u.ensures c.requires.1.sendable.receiver, c.put_task.ensures.0)

pub put_held-requires : goal.put_held-requires
put_held-requires c =
    -- the sender is where it was
    let s = c.args in
    let g = c.requires.1.sendable in
    let stays : c.send_outcome-o.result.sender.processor ≡ (task_in (tasks_on s.board.now) s.t).processor = send_processor s.codes.now s.numbers.now (receivers_of s.users.now) s.hintprocessors.now s.hintmoves.now s.heldprocessors.now s.heldnumbers.now s.board.now s.t s.c g.at.channel_low c.send_outcome-o.ensures in
    rw stays g.at

pub put_channel-requires : goal.put_channel-requires
put_channel-requires c = let g = c.requires.1.sendable.at in (g.channel_low, g.channel, c.put_task-2.ensures.0)

pub returns : goal.returns
returns c =
    let s = c.args in
    let g = c.requires.1.sendable in
    let stays : c.send_outcome-o.result.sender.processor ≡ (task_in (tasks_on s.board.now) s.t).processor = send_processor s.codes.now s.numbers.now (receivers_of s.users.now) s.hintprocessors.now s.hintmoves.now s.heldprocessors.now s.heldnumbers.now s.board.now s.t s.c g.at.channel_low c.send_outcome-o.ensures in
    let k = send_scope (receivers_of s.users.now) (tasks_on s.board.now) s.t s.c in
    let one = c.put_task.ensures in
    let two = c.put_task-2 in
    let own = c.put_channel in
    let offer = rw stays at c.put_held.ensures in
    λ senders notes.
    let before = lent s.hintprocessors.now s.hintmoves.now s.heldprocessors.now s.heldnumbers.now notes s.board.now in
    let after = lent s.hintprocessors.now s.hintmoves.now c.put_held.new.heldprocessors c.put_held.new.heldnumbers notes own.new.board in
    all_stored s.n.processors s.n.used k senders (receivers_of s.users.now)
    (send_noted s.codes.now s.numbers.now (receivers_of s.users.now) s.hintprocessors.now s.hintmoves.now s.heldprocessors.now s.heldnumbers.now s.board.now s.t s.c g.at.channel_low notes c.send_outcome-o.ensures)
    c.fits.ensures before after g.at.channel_low (not-false c.fits.result c.if-not-fits.false-raw) own.ensures.0
    (own.ensures.2 ∙ both_stored (tasks_on s.board.now) c.send_outcome-o.result refl c.receiver-u.ensures one.1 two.ensures.1)
    (held_stored s.hintprocessors.now s.hintmoves.now s.heldprocessors.now s.heldnumbers.now notes s.board.now two.new.board own.new.board
    k.processor s.c c.send_outcome-o.result.cell
    (send_hint s.codes.now s.numbers.now (receivers_of s.users.now) s.hintprocessors.now s.hintmoves.now s.heldprocessors.now s.heldnumbers.now s.board.now s.t s.c g.at.channel_low c.send_outcome-o.ensures)
    offer (two.ensures.2 ∙ one.2) own.ensures.1)
    (own.ensures.3 ∙ two.ensures.3 ∙ one.3)
    c.accepted.ensures

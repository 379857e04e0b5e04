-- `receive`: a receive of task t on channel c.
use mathlib.Core.Path.{◌≡◌, refl, ◌∙◌}
use borrow.Author.Tests.{not-true, not-false}
use Rattle.plan_index.specs.user_table.Users.{senders_of}
use Rattle.board.specs.Lent.{lent, tasks_on}
use Rattle.board.proofs.Acts.{none_fits, all_stored}
use Rattle.steps.specs.instruction.Receives.{receive_scope}
use Rattle.steps.proofs.instruction.Receiving.{receive_kept, receive_processor}
use Rattle.steps.proofs.instruction.Stored.{both_stored, note_stored}
use borrow.Author.Rules.{rules}
use Rattle.rig_parts.specs.declared.sweep.Sweep.TheVariants.{Nothing}
use Rattle.rules.specs.Systems.{task_in}
use Rattle.steps.proofs.instruction.receive.receive.Goals as goal

pub returns-then-not-fits : goal.returns-then-not-fits
returns-then-not-fits c =
    let s = c.args in
    let g = c.requires.1.receivable in
    let k = receive_scope (senders_of s.users.now) (tasks_on s.board.now) s.t s.c in
    λ receivers hp hm op on.
    none_fits s.n.processors s.n.used k (senders_of s.users.now) receivers
    (receive_kept s.codes.now s.numbers.now (senders_of s.users.now) s.notes.now s.board.now s.t s.c g.at.channel_low hp hm op on c.receive_outcome-o.ensures)
    c.fits.ensures Nothing (not-true c.fits.result c.if-not-fits.true-raw) c.refused.ensures c.requires.0

pub put_task-requires : goal.put_task-requires
put_task-requires c = (rw c.sender-u.ensures c.requires.1.receivable.sender, c.requires.0)

pub put_note-requires : goal.put_note-requires
put_note-requires c =
    -- the receiver is where it was
    let s = c.args in
    let g = c.requires.1.receivable in
    let stays : c.receive_outcome-o.result.receiver.processor ≡ (task_in (tasks_on s.board.now) s.t).processor =
    receive_processor s.codes.now s.numbers.now (senders_of s.users.now) s.notes.now s.board.now s.t s.c g.at.channel_low c.receive_outcome-o.ensures in
    rw stays g.at

pub put_channel-requires : goal.put_channel-requires
put_channel-requires c = let g = c.requires.1.receivable.at in (g.channel_low, g.channel, c.put_task-2.ensures.0)

pub returns : goal.returns
returns c =
    let s = c.args in
    let g = c.requires.1.receivable in
    let stays : c.receive_outcome-o.result.receiver.processor ≡ (task_in (tasks_on s.board.now) s.t).processor =
    receive_processor s.codes.now s.numbers.now (senders_of s.users.now) s.notes.now s.board.now s.t s.c g.at.channel_low c.receive_outcome-o.ensures in
    let k = receive_scope (senders_of s.users.now) (tasks_on s.board.now) s.t s.c in
    let one = c.put_task.ensures in
    let two = c.put_task-2 in
    let own = c.put_channel in
    let note = rw stays at c.put_note.ensures in
    λ receivers hp hm op on.
    let before = lent hp hm op on s.notes.now s.board.now in
    let after = lent hp hm op on c.put_note.new.notes own.new.board in
    all_stored s.n.processors s.n.used k (senders_of s.users.now) receivers
    (receive_kept s.codes.now s.numbers.now (senders_of s.users.now) s.notes.now s.board.now s.t s.c g.at.channel_low hp hm op on c.receive_outcome-o.ensures)
    c.fits.ensures before after g.at.channel_low (not-false c.fits.result c.if-not-fits.false-raw) own.ensures.0
    (own.ensures.2 ∙ both_stored (tasks_on s.board.now) c.receive_outcome-o.result c.sender-u.ensures refl one.1 two.ensures.1)
    (note_stored hp hm op on s.notes.now s.board.now two.new.board own.new.board
    k.processor s.c c.receive_outcome-o.result.cell
    note (two.ensures.2 ∙ one.2) own.ensures.1)
    (own.ensures.3 ∙ two.ensures.3 ∙ one.3)
    c.accepted.ensures

-- Deliver: an ended letter and a mover letter.
use Rattle.std.specs.Prelude.{not, ℕ}
use Rattle.base.specs.Choice.{pick}
use Rattle.base.specs.Sets.{member}
use Rattle.plan.specs.declared.TaskId.{TaskId}
use Rattle.plan.specs.declared.ProcessorId.{ProcessorId}
use Rattle.rules.specs.declared.task.Task.{Task}
use Rattle.rules.specs.declared.channel.Hint.{Hint}
use Rattle.rules.specs.declared.channel.Cell.{Cell}
use Rattle.rules.specs.declared.message.Message.TheVariants.{Terminated}
use Rattle.rules.specs.declared.rule.Posting.TheVariants.{Nothing, Single}
use Rattle.rules.specs.declared.rule.Ended.{Ended}
use Rattle.rules.specs.declared.system.ParentEntry.{ParentEntry}
use Rattle.rules.specs.declared.system.System.{System}
use Rattle.rules.specs.Hints.{hint, unknown, newer, points_on}
use Rattle.rules.specs.Tasks.{is_at, without_child, without_children, arrived}
use Rattle.rules.specs.Cells.{no_offer, counts, with_hint, with_held, with_travelling, carrying}
use Rattle.rules.specs.Systems.{task_at, with_task, parent_at, with_parent}
use Rattle.rules.specs.Effects.{for_receiving, for_sending}
use Rattle.rules.specs.Starts.{located}
use Rattle.rules.specs.Local.{holding_child}

-- "Ended: the child leaves the set."; "The letter now supposes only that the child is in its parent's set. It is forwarded or held by the rules of
-- an offer": "if d's pointer names another desk with a larger count than the letter's, forwarded there with that count; else held at d". The
-- parent's record, what d keeps for it, the letter's pointer h, which names d, and child t
unfoldable pub terminated_rule : Task → ParentEntry → Hint → TaskId → Ended
terminated_rule parent e h t =
    let d = h.processor in
    pick (not (member t.0 parent.children)) (record { parent = parent; entry = e; posting = Nothing })
    (pick (is_at d parent) (record { parent = without_child parent t; entry = e; posting = Nothing })
    (pick (points_on e.hint h d) (record { parent = parent; entry = e; posting = Single (Terminated e.hint t) })
    (record { parent = parent; entry = holding_child e t; posting = Nothing })))

-- "a held offer that counts is taken over, another is dropped": for one channel
unfoldable pub taken_over : Cell → Cell
taken_over x =
    pick (counts x x.entry.held) (with_held (carrying x x.entry.held) no_offer)
    (with_held x no_offer)

-- for one channel that the arriving task receives on: the pointer of a birth or an arrival, and the held offer
abbrev pub arrival_receiving : ProcessorId → ℕ → Cell → Cell
arrival_receiving d n x = taken_over (located d n x)

-- "for each channel it sends on, the desk's pointer becomes the newer of it and the travelling one, which is cleared"
abbrev pub arrival_sending : Cell → Cell
arrival_sending x = with_travelling (with_hint x (newer x.entry.hint x.channel.travelling)) unknown

-- what d keeps for an arriving task with count n: the pointer of `Starts`, and none of the children held for it, which leave its set (`Tasks`)
abbrev pub arrival_parent : ProcessorId → ℕ → ParentEntry
arrival_parent d n = record { hint = hint d n; held = 0 }

-- "Mover: the task is ready here with its carried offers; ..": task t at d
unfoldable pub arrival : System → TaskId → ProcessorId → System
arrival r t d =
    let x = task_at r t in
    let y = without_children (arrived x d) (parent_at r d t).held in
    for_sending
    (for_receiving (with_parent (with_task r t y) d t (arrival_parent d x.moves)) t d (arrival_receiving d x.moves))
    t d arrival_sending

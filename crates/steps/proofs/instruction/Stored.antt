-- What a receive stores of a cell, and two tasks that are stored one after the other.
use mathlib.Core.Path.{◌≡◌, refl, ap, ◌∙◌}
use mathlib.Core.List.{List}
use Prim.Native.Nat.{ℕ, ◌-◌}
use lib.ListN.{set}
use Rattle.plan.specs.declared.TaskId.{TaskId}
use Rattle.plan.specs.declared.ChannelId.{ChannelId}
use Rattle.plan.specs.declared.ProcessorId.{ProcessorId}
use Rattle.rules.specs.declared.channel.Cell.{Cell}
use Rattle.rules.specs.declared.rule.Outcome.{Outcome}
use Rattle.rules.specs.declared.system.TaskTable.{TaskTable}
use Rattle.rules.specs.declared.system.Channels.{Channels}
use Rattle.rules.specs.Cells.{with_hint, with_held}
use Rattle.rules.specs.Systems.{entry_index, write_channel, cell_stored, task_stored}
use Rattle.board.specs.Lent.{lent, channels_on, store_of, hint_in, held_in}
use Rattle.board.proofs.Stores.{note_stored as note_kept}

-- the tasks, where their numbers are known by equations
pub both_stored : (ts : TaskTable) (o : Outcome) {one two : TaskTable} {s s' u u' : TaskId} → s' ≡ s → u' ≡ u → one ≡ task_stored ts s' o.sender → two ≡ task_stored one u' o.receiver
    → two ≡ task_stored (task_stored ts s o.sender) u o.receiver
both_stored ts o es eu e f = rw (f, e, eu, es) refl

-- the note and the channel of a cell are stored, pointer and held offer stay
pub note_stored : (hp hm op on notes board two board' : List ℕ) (d : ProcessorId) (c : ChannelId) (x : Cell) {notes' : List ℕ}
    → notes' ≡ set notes (entry_index d c) x.entry.noted.0
    → channels_on two ≡ channels_on board → channels_on board' ≡ write_channel (channels_on two) (c.0 - 1) x.channel
    → store_of (lent hp hm op on notes' board') ≡ cell_stored (store_of (lent hp hm op on notes board)) d c (with_hint (with_held x (held_in op on d c)) (hint_in hp hm d c))
note_stored hp hm op on notes board two board' d c x en ek ew =
    note_kept hp hm op on notes board d c x.entry.noted x.channel board' en (ew ∙ ap (λ (k : Channels). write_channel k (c.0 - 1) x.channel) ek)

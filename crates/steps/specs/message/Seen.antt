-- What the rule of a letter sees of its channel's site; the rest stands for nothing.
use Rattle.std.specs.Prelude.{◌≡◌, Bool, false, List, ℕ}
use Rattle.plan.specs.declared.ChannelId.{ChannelId}
use Rattle.rules.specs.declared.task.Task.{Task}
use Rattle.rules.specs.declared.task.TaskState.TheVariants.{Receiving}
use Rattle.rules.specs.declared.channel.Cell.{Cell}
use Rattle.rules.specs.declared.message.Message.{Message}
use Rattle.rules.specs.declared.rule.Site.{Site}
use Rattle.rules.specs.declared.rule.Outcome.{Outcome}
use Rattle.rules.specs.Numbers.{no_processor}
use Rattle.rules.specs.Tasks.{no_task}
use Rattle.rules.specs.Cells.{unknown, no_offer, with_hint, with_held, with_noted}
use Rattle.rules.specs.Systems.{task_in}
use Rattle.rig_parts.specs.Fetches.{is_on_in, site_in, no_cell}
use Rattle.rig_parts.specs.Scopes.{named_in, message_scope}
use Rattle.plan_index.specs.user_table.Users.{senders_of, receivers_of, parents_of}
use Rattle.board.specs.Lent.{Lent, tasks_on, tasks_of, store_of}

-- a site with nobody at the sending end
abbrev pub receiver_site : Task → Bool → Cell → Site
receiver_site b receiving cell = record { sender = no_task; receiver = b; sending = false; receiving = receiving; cell = cell }

-- channel c's site with this cell, as its receiver has it
abbrev pub at_receiver : (codes users board : List ℕ) → ChannelId → Cell → Site
at_receiver codes users board c cell =
    let u = named_in (receivers_of users) c.0 in
    let b = task_in (tasks_on board) u in
    receiver_site b (is_on_in codes Receiving u c b) cell

-- a site with nobody at the receiving end
abbrev pub sender_site : Task → Bool → Cell → Site
sender_site a sending cell = record { sender = a; receiver = no_task; sending = sending; receiving = false; cell = cell }

-- an offer: the receiver, and all but the note
abbrev pub offer_sees : Site → Site
offer_sees x = receiver_site x.receiver x.receiving (with_noted x.cell no_processor)

-- an advert: the receiver, the note and the channel
abbrev pub advert_sees : Site → Site
advert_sees x = receiver_site x.receiver x.receiving (with_hint (with_held x.cell no_offer) unknown)

-- a call: the sender and the pointer
abbrev pub call_sees : Site → Site
call_sees x = sender_site x.sender x.sending (with_hint no_cell x.cell.entry.hint)

-- a word letter: the receiver and the channel
abbrev pub word_sees : Site → Site
word_sees x = receiver_site x.receiver x.receiving (record { entry = no_cell.entry; channel = x.cell.channel })

-- what the rule of the letter m leaves of what it sees
abbrev pub Found : (Site → Message → Outcome) → (Site → Site) → (codes users : List ℕ) → Message → Lent → Outcome → Type 0
Found rule sees codes users m l o =
    o ≡ rule (sees (site_in codes (tasks_of l) (store_of l) (message_scope (senders_of users) (receivers_of users) (parents_of users) m))) m

-- The tests of a send and of a receive that look at more than one thing, as the rules make them.
use Rattle.std.specs.Prelude.{Bool, not, ◌&&◌}
use Rattle.rules.specs.declared.rule.Site.{Site}
use Rattle.rules.specs.Numbers.{is_none}
use Rattle.rules.specs.Tasks.{is_at}
use Rattle.rules.specs.Cells.{none_called}

-- of a send: the receiver is at the same desk, and waits for a word that it has not called for
abbrev pub receives_here : Site → Bool
receives_here x = is_at x.sender.processor x.receiver && (x.receiving && not x.cell.channel.awaiting)

-- of a receive: the sender is at the same desk, and waits
abbrev pub sends_here : Site → Bool
sends_here x = x.sending && is_at x.receiver.processor x.sender

-- of a receive: an advert is noted, and no word was called for
abbrev pub advert_stands : Site → Bool
advert_stands x = none_called x.cell && not (is_none x.cell.entry.noted)

-- What is kept for one channel: pointers, offers, adverts, the number called and the mark; and the small changes of them.
use Rattle.std.specs.Prelude.{Bool, true, false, ℕ, ◌+◌, eqb, ltb}
use Rattle.base.specs.Choice.{pick}
use Rattle.plan.specs.declared.ProcessorId.{ProcessorId}
use Rattle.rules.specs.declared.channel.Hint.{Hint}
use Rattle.rules.specs.declared.channel.Offer.{Offer}
use Rattle.rules.specs.declared.channel.Cell.{Cell}
use Rattle.rules.specs.Numbers.{no_processor, is_none}
pub use Rattle.rules.specs.Hints.{hint, unknown, is_unknown, newer}

abbrev pub offer : ProcessorId → ℕ → Offer
offer d w = record { processor = d; number = w }

abbrev pub no_offer : Offer
no_offer = offer no_processor 0

-- "Of two, the larger number is kept, of equals the earlier."
unfoldable pub larger : Offer → Offer → Offer
larger earlier later = pick (ltb earlier.number later.number) later earlier

-- the same of adverts: "an advert is number 1"
unfoldable pub first_noted : ProcessorId → ProcessorId → ProcessorId
first_noted first later = pick (is_none first) later first

-- "An offer numbered w counts only if w > called"
abbrev pub counts : Cell → Offer → Bool
counts x o = ltb x.channel.granted o.number

-- "called 0"
abbrev pub none_called : Cell → Bool
none_called x = eqb x.channel.granted 0

-- a cell with one field changed
abbrev pub with_hint : Cell → Hint → Cell
with_hint x h = record { entry = record { hint = h; held = x.entry.held; noted = x.entry.noted }; channel = x.channel }

abbrev pub with_held : Cell → Offer → Cell
with_held x o = record { entry = record { hint = x.entry.hint; held = o; noted = x.entry.noted }; channel = x.channel }

abbrev pub with_noted : Cell → ProcessorId → Cell
with_noted x d = record { entry = record { hint = x.entry.hint; held = x.entry.held; noted = d }; channel = x.channel }

abbrev with_channel : Cell → ℕ → Bool → Offer → Hint → Cell
with_channel x n b o h = record { entry = x.entry; channel = record { granted = n; awaiting = b; carried = o; travelling = h } }

abbrev pub with_granted : Cell → ℕ → Cell
with_granted x n = with_channel x n x.channel.awaiting x.channel.carried x.channel.travelling

abbrev pub with_awaiting : Cell → Bool → Cell
with_awaiting x b = with_channel x x.channel.granted b x.channel.carried x.channel.travelling

abbrev pub with_carried : Cell → Offer → Cell
with_carried x o = with_channel x x.channel.granted x.channel.awaiting o x.channel.travelling

abbrev pub with_travelling : Cell → Hint → Cell
with_travelling x h = with_channel x x.channel.granted x.channel.awaiting x.channel.carried h

-- an offer is carried, or held, beside one that may be there; an advert is noted
abbrev pub carrying : Cell → Offer → Cell
carrying x o = with_carried x (larger x.channel.carried o)

abbrev pub holding : Cell → Offer → Cell
holding x o = with_held x (larger x.entry.held o)

abbrev pub noting : Cell → ProcessorId → Cell
noting x d = with_noted x (first_noted x.entry.noted d)

-- "called goes up by one and a call letter .. goes": "since it began this receive, a call letter left .. the channel keeps a mark"
abbrev pub granting : Cell → Cell
granting x = with_awaiting (with_granted x (x.channel.granted + 1)) true

-- "a mark of this, which the word clears"
abbrev pub cleared : Cell → Cell
cleared x = with_awaiting x false

-- "the word passes directly, called becomes w"
abbrev pub passing : Cell → ℕ → Cell
passing x w = cleared (with_granted x w)

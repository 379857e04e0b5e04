-- What a birth, a departure and an arrival do to what the rig keeps for channels and for parents; what the end of a child does.
use Rattle.std.specs.Prelude.{Bool, true, List, ℕ, eqb, get_or}
use Rattle.base.specs.Choice.{within}
use Rattle.plan.specs.declared.TaskId.{TaskId}
use Rattle.plan.specs.declared.ProcessorId.{ProcessorId}
use Rattle.plan.specs.declared.ChannelId.{ChannelId}
use Rattle.rules.specs.declared.channel.Cell.{Cell}
use Rattle.rules.specs.declared.channel.Hint.{Hint}
use Rattle.rules.specs.declared.system.Parents.{Parents}
use Rattle.rules.specs.declared.system.ParentEntry.{ParentEntry}
use Rattle.rules.specs.declared.system.Store.{Store}
use Rattle.rules.specs.Hints.{hint}
use Rattle.rules.specs.Systems.{parent_index, read_parent, write_parent}
use Rattle.rules.specs.Effects.{cell_ruled, for_cells}
use Rattle.rules.specs.Starts.{located, pointing}
use Rattle.rules.specs.Arrivals.{arrival_receiving, arrival_sending, arrival_parent}
use Rattle.rules.specs.Moves.{departure_sending}
use Rattle.rig_parts.specs.declared.sweep.CellRule.{CellRule}
use Rattle.rig_parts.specs.declared.sweep.CellRule.TheVariants.{Locate, ArriveReceiving, ArriveSending, DepartSending}
use Rattle.rig_parts.specs.declared.sweep.Sweep.{Sweep}
use Rattle.rig_parts.specs.declared.sweep.Sweep.TheVariants.{Nothing, Birth, Departure, Arrival, Ending}

-- the rules for one channel of a task that is born, leaves or arrives
abbrev pub rule_of : CellRule → Cell → Cell
rule_of (Locate d n) = located d n
rule_of (ArriveReceiving d n) = arrival_receiving d n
rule_of ArriveSending = arrival_sending
rule_of DepartSending = departure_sending

abbrev pub ruled_at : CellRule → ProcessorId → ChannelId → Store → Store
ruled_at rule d c s = cell_ruled (rule_of rule) d c s

-- the channels that have task t at this end
abbrev pub end_is : List ℕ → TaskId → ChannelId → Bool
end_is ends t c = eqb (get_or ends c.0 0) t.0

abbrev pub for_ends : List ℕ → TaskId → ProcessorId → CellRule → Store → Store
for_ends ends t d rule s = for_cells 128 (end_is ends t) (rule_of rule) d s

-- where a sweep is; it is at a desk
abbrev pub sweep_ok : Sweep → Bool
sweep_ok Nothing = true
sweep_ok (Birth t d) = within 1 6 d.0
sweep_ok (Departure t d h) = within 1 6 d.0
sweep_ok (Arrival t d n) = within 1 6 d.0
sweep_ok (Ending t d e) = within 1 6 d.0

-- a birth, a departure and an arrival, by the senders and the receivers of the channels
abbrev pub swept : List ℕ → List ℕ → Sweep → Store → Store
swept senders receivers Nothing s = s
swept senders receivers (Birth t d) s = for_ends receivers t d (Locate d 1) s
swept senders receivers (Departure t d h) s = for_ends senders t d DepartSending (for_ends receivers t d (Locate h.processor h.moves) s)
swept senders receivers (Arrival t d n) s = for_ends senders t d ArriveSending (for_ends receivers t d (ArriveReceiving d n) s)
swept senders receivers (Ending t d e) s = s

-- what desk d keeps for parent t
abbrev pub parent_in : Parents → ProcessorId → TaskId → ParentEntry
parent_in ps d t = read_parent ps (parent_index d t)

abbrev pub parent_stored : Parents → ProcessorId → TaskId → ParentEntry → Parents
parent_stored ps d t e = write_parent ps (parent_index d t) e

abbrev pub parent_pointed : Parents → ProcessorId → TaskId → Hint → Parents
parent_pointed ps d t h = parent_stored ps d t (pointing (parent_in ps d t) h)

abbrev pub swept_parents : Sweep → Parents → Parents
swept_parents Nothing ps = ps
swept_parents (Birth t d) ps = parent_pointed ps d t (hint d 1)
swept_parents (Departure t d h) ps = parent_pointed ps d t h
swept_parents (Arrival t d n) ps = parent_stored ps d t (arrival_parent d n)
swept_parents (Ending t d e) ps = parent_stored ps d t e

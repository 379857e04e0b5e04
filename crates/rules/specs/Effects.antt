-- How a rule is applied to the rig: what it may touch is fetched, and what it leaves is stored.
use Rattle.std.specs.Prelude.{Bool, ℕ, zero, suc, None}
use Rattle.base.specs.Choice.{pick}
use Rattle.plan.specs.declared.TaskId.{TaskId}
use Rattle.plan.specs.declared.ProcessorId.{ProcessorId}
use Rattle.plan.specs.declared.ChannelId.{ChannelId}
use Rattle.plan.specs.Programs.{Programs}
use Rattle.plan.specs.Users.{sender_of, receiver_of}
use Rattle.rules.specs.declared.task.TaskState.TheVariants.{Sending, Receiving}
use Rattle.rules.specs.declared.channel.Cell.{Cell}
use Rattle.rules.specs.declared.rule.Site.{Site}
use Rattle.rules.specs.declared.rule.Outcome.{Outcome}
use Rattle.rules.specs.declared.rule.Posting.{Posting}
use Rattle.rules.specs.declared.rule.Posting.TheVariants.{Nothing}
use Rattle.rules.specs.Reports.{Received}
use Rattle.rules.specs.declared.system.Store.{Store}
use Rattle.rules.specs.declared.system.System.{System}
use Rattle.rules.specs.Numbers.{channel_id, same_task}
use Rattle.rules.specs.Places.{is_on}
use Rattle.rules.specs.Networks.{posted}
use Rattle.rules.specs.Systems.{store_in, with_store, with_network, task_at, with_task, cell_in, cell_stored, cell_at, with_cell, task_program, meaning}

-- what a step does, before its letters join the mail
pub record Effect : Type 0 where
  pub system : System
  pub posting : Posting
  pub received : Received

-- the rig is changed, and that is all
abbrev pub changed : System → Effect
changed r = record { system = r; posting = Nothing; received = None }

abbrev pub changed_posting : System → Posting → Effect
changed_posting r p = record { system = r; posting = p; received = None }

-- the rig then, with the letters in its mail
unfoldable pub completed : Effect → System
completed e = with_network e.system (posted e.system.processors e.posting e.system.network)

-- channel c at desk d, from task s to task u
unfoldable pub site_at : System → TaskId → TaskId → ChannelId → ProcessorId → Site
site_at r s u c d =
    record {
      sender = task_at r s;
      receiver = task_at r u;
      sending = is_on Sending (task_program r s) c (task_at r s);
      receiving = is_on Receiving (task_program r u) c (task_at r u);
      cell = cell_at r d c;
    }

unfoldable pub with_outcome : System → TaskId → TaskId → ChannelId → ProcessorId → Outcome → Effect
with_outcome r s u c d o =
    record {
      system = with_cell (with_task (with_task r s o.sender) u o.receiver) d c o.cell;
      posting = o.posting;
      received = o.received;
    }

-- a rule about one channel at one desk, applied
abbrev pub applied : System → TaskId → TaskId → ChannelId → ProcessorId → (Site → Outcome) → Effect
applied r s u c d rule = with_outcome r s u c d (rule (site_at r s u c d))

-- a rule for one channel, applied at desk d to channel c of a store
abbrev pub cell_ruled : (Cell → Cell) → ProcessorId → ChannelId → Store → Store
cell_ruled rule d c s = cell_stored s d c (rule (cell_in s d c))

-- the same for each of the channels 1 .. n of which the test holds
unfoldable pub for_cells : ℕ → (ChannelId → Bool) → (Cell → Cell) → ProcessorId → Store → Store
for_cells zero test rule d s = s
for_cells (suc n) test rule d s =
    let q = for_cells n test rule d s in
    pick (test (channel_id (suc n))) (cell_ruled rule d (channel_id (suc n)) q) q

-- of the rig
unfoldable pub for_channels : ℕ → (ChannelId → Bool) → (Cell → Cell) → ProcessorId → System → System
for_channels n test rule d r = with_store r (for_cells n test rule d (store_in r))

-- each channel that a task receives on, and each that it sends on
abbrev pub receives_on : Programs → TaskId → ChannelId → Bool
receives_on m t c = same_task (receiver_of m c) t

abbrev pub sends_on : Programs → TaskId → ChannelId → Bool
sends_on m t c = same_task (sender_of m c) t

abbrev pub for_receiving : System → TaskId → ProcessorId → (Cell → Cell) → System
for_receiving r t d rule = for_channels 128 (receives_on (meaning r) t) rule d r

abbrev pub for_sending : System → TaskId → ProcessorId → (Cell → Cell) → System
for_sending r t d rule = for_channels 128 (sends_on (meaning r) t) rule d r

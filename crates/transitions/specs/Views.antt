-- The view of one channel in a rig that is read; `histories` says where each task was sent with each move count.
use Rattle.std.specs.Prelude.{ℕ}
use Rattle.plan.specs.declared.TaskId.{TaskId}
use Rattle.plan.specs.declared.ChannelId.{ChannelId}
use Rattle.plan.specs.Kinds.{op_send, op_receive}
use Rattle.plan.specs.Programs.{Program, Programs}
use Rattle.plan.specs.Users.{sender_of, receiver_of}
use Rattle.rules.specs.declared.task.TaskState.TheVariants.{Sending, Receiving}
use Rattle.rules.specs.declared.task.Task.{Task}
use Rattle.rules.specs.declared.channel.Entry.{Entry}
use Rattle.rules.specs.declared.channel.Channel.{Channel}
use Rattle.rules.specs.Places.{is_on}
use Rattle.channel.specs.Views.{Sender, Receiver, Tables, State, View}
use Rattle.transitions.specs.Readings.{Reading}
use Rattle.transitions.specs.Progress.{flag, program_of, completed_by, use_number}
use Rattle.transitions.specs.Messages.{messages_on}

abbrev pub Histories : Type 0
Histories = TaskId → ℕ → ℕ

unfoldable pub sender_view : Program → ChannelId → Task → Sender
sender_view g c x = record { at = x.processor.0; sending = flag (is_on Sending g c x); sent = use_number op_send g c (completed_by x) }

unfoldable pub receiver_view : Program → ChannelId → (ℕ → ℕ) → Task → Receiver
receiver_view g c history x =
    record {
      at = x.processor.0;
      receiving = flag (is_on Receiving g c x);
      received = use_number op_receive g c (completed_by x);
      moves = x.moves;
      history = history;
    }

unfoldable pub tables_view : (ℕ → Entry) → Tables
tables_view entries = record { hints = λ d. (entries d).hint; held = λ d. (entries d).held; noted = λ d. (entries d).noted }

unfoldable pub state_view : Channel → State
state_view k = record { granted = k.granted; awaiting = flag k.awaiting; carried = k.carried; travelling = k.travelling }

unfoldable pub view_of : Programs → Histories → Reading → ChannelId → View
view_of m histories x c =
    record {
      processors = x.processors;
      sender = sender_view (program_of m (sender_of m c)) c (x.tasks (sender_of m c));
      receiver = receiver_view (program_of m (receiver_of m c)) c (histories (receiver_of m c)) (x.tasks (receiver_of m c));
      tables = tables_view (x.entries c);
      state = state_view (x.channels c);
      messages = messages_on c x.messages;
    }

-- Why a task goes no further.
use Rattle.std.specs.Prelude.{◌≡◌, true, false}
use Rattle.plan.specs.declared.TaskId.{TaskId}
use Rattle.plan.specs.declared.ChannelId.{ChannelId}
use Rattle.plan.specs.Kinds.{op_send, op_receive}
use Rattle.plan.specs.Programs.{Programs}
use Rattle.plan.specs.Users.{sender_of, receiver_of, parent_of}
use Rattle.net.specs.States.{Net}
use Rattle.net.specs.Labels.{is_join}
use Rattle.net.specs.Guards.{is_complete, next_of, stands_at}

pub data Stuck (m : Programs) (s : Net) (t : TaskId) : Type 0 where
  -- at a send, and the other end of the channel, if there is one, is not at its receive; and the reverse
  sending : (c : ChannelId) → stands_at m s t op_send c ≡ true → stands_at m s (receiver_of m c) op_receive c ≡ false → Stuck m s t
  receiving : (c : ChannelId) → stands_at m s t op_receive c ≡ true → stands_at m s (sender_of m c) op_send c ≡ false → Stuck m s t
  -- at a sync or a finish, and a child is not complete
  joining : (u : TaskId) → is_join (next_of m s t) ≡ true → parent_of m u ≡ t → s.born u ≡ true → is_complete m s u ≡ false → Stuck m s t

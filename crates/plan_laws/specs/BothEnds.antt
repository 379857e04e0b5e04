-- A channel that is used has both ends: what 6 says of an accepted plan.
use Rattle.std.specs.Prelude.{◌≡◌, true, ◌||◌, ◌≢◌, ℕ, ◌≤◌, ◌<◌, length, Ok}
use Rattle.plan.specs.declared.ChannelId.{ChannelId}
use Rattle.plan.specs.Numbers.{channel_id}
use Rattle.plan.specs.Kinds.{op_send, op_receive, is_use}
use Rattle.plan.specs.Programs.{Programs, program_at, instruction_at}
use Rattle.plan.specs.Users.{sender_of, receiver_of}
use Rattle.plan.specs.Refusals.{plan_answer}

-- channel c has a sender and a receiver, two tasks of the plan
pub record BothEnds (m : Programs) (c : ChannelId) : Type 0 where
  pub sender : 1 ≤ (sender_of m c).0
  pub sender_few : (sender_of m c).0 ≤ length m
  pub receiver : 1 ≤ (receiver_of m c).0
  pub receiver_few : (receiver_of m c).0 ≤ length m
  pub differ : (sender_of m c).0 ≢ (receiver_of m c).0

-- "a channel used by a sender has a receiver, and the reverse": instruction i + 1 of task k + 1 is a send or a receive on c
abbrev pub UsedHasBothEnds : Type 0
UsedHasBothEnds =
    (m : Programs) → plan_answer m ≡ Ok tt → (c k i : ℕ) → k < length m → i < length (program_at m k)
    → is_use op_send c (instruction_at (program_at m k) i) || is_use op_receive c (instruction_at (program_at m k) i) ≡ true
    → BothEnds m (channel_id c)

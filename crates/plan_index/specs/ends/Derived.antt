-- What is derived once a run from an accepted plan.
use Rattle.std.specs.Prelude.{ℕ, ◌+◌, ◌/◌, ◌%◌, eqb}
use Rattle.base.specs.Choice.{pick}
use Rattle.base.specs.Lists.{table}
use Rattle.plan.specs.declared.Plan.{Plan}
use Rattle.plan.specs.Numbers.{channel_id}
use Rattle.plan.specs.Kinds.{op_create, op_send, op_receive}
use Rattle.plan.specs.Programs.{Programs, program_at, in_slot, programs}
use Rattle.plan.specs.Users.{users, first_of}
use Rattle.rules.specs.Places.{send_number}
use Rattle.plan_index.specs.declared.ends.Ends.{Ends}

-- the number of the send in slot s, 0 where the slot has no send
unfoldable pub number_in : Programs → ℕ → ℕ
number_in m s =
    pick (eqb (in_slot m s).opcode op_send) (send_number (program_at m (s / 64)) (channel_id (in_slot m s).operand) (s % 64 + 1)) 0

-- the first task that has an instruction of kind k with argument a, 0 if none has: a channel's sender (`sender_of`) and receiver
-- (`receiver_of`), a task's parent (`parent_of`)
abbrev pub user_in : Programs → ℕ → ℕ → ℕ
user_in m k a = first_of (users m k a)

unfoldable pub ends_of : Plan → Ends
ends_of p =
    record {
      senders = table 129 (user_in (programs p) op_send);
      receivers = table 129 (user_in (programs p) op_receive);
      parents = table 129 (user_in (programs p) op_create);
      numbers = table 4096 (number_in (programs p));
    }

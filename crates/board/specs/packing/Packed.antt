-- A channel's own entry and a task, as numbers of 64 bits.
use Rattle.std.specs.Prelude.{Bool, ℕ, ◌+◌, ◌*◌, ◌/◌, ◌%◌, eqb}
use Rattle.base.specs.Choice.{pick}
use Rattle.plan.specs.declared.Word.{Word}
use Rattle.plan.specs.Words.{levels}
use Rattle.rules.specs.declared.task.Task.{Task}
use Rattle.rules.specs.declared.task.TaskState.{TaskState}
use Rattle.rules.specs.declared.task.TaskState.TheVariants.{Unborn, Ready, Waiting, Sending, Receiving, Moving, Done}
use Rattle.rules.specs.declared.channel.Channel.{Channel}
use Rattle.rules.specs.declared.channel.Hint.{Hint}
use Rattle.rules.specs.Numbers.{processor_id}
use Rattle.rules.specs.Cells.{hint, offer}

-- the fields of a number: the lowest 16 bits, and the bytes behind them
abbrev pub low16 : ℕ → ℕ
low16 v = v % 65536

abbrev pub byte2 : ℕ → ℕ
byte2 v = v / 65536 % 256

abbrev pub byte3 : ℕ → ℕ
byte3 v = v / 16777216 % 256

abbrev pub byte4 : ℕ → ℕ
byte4 v = v / 4294967296 % 256

abbrev pub byte5 : ℕ → ℕ
byte5 v = v / 1099511627776 % 256

abbrev pub mark6 : ℕ → Bool
mark6 v = eqb (v / 281474976710656 % 2) 1

abbrev pub bit : Bool → ℕ
bit b = pick b 1 0

-- a pointer, in the lowest 24 bits
abbrev pub hint_of : ℕ → Hint
hint_of v = hint (processor_id (byte2 v)) (low16 v)

abbrev pub hint_word : Hint → ℕ
hint_word h = 65536 * h.processor.0 + h.moves

-- a channel's own entry
unfoldable pub channel_of : ℕ → Channel
channel_of v =
    record { granted = byte5 v; awaiting = mark6 v; carried = offer (processor_id (byte3 v)) (byte4 v); travelling = hint_of v }

abbrev pub channel_word : Channel → ℕ
channel_word y =
    y.travelling.moves + 65536 * y.travelling.processor.0 + 16777216 * y.carried.processor.0 + 4294967296 * y.carried.number + 1099511627776 * y.granted + 281474976710656 * bit y.awaiting

-- the same with another travelling pointer, from its number
abbrev pub travelling_word : ℕ → Hint → ℕ
travelling_word v h = 16777216 * (v / 16777216) + hint_word h

-- a task's state
abbrev pub state_of : ℕ → TaskState
state_of n =
    pick (eqb n 0) Unborn
    (pick (eqb n 1) Ready
    (pick (eqb n 2) Waiting
    (pick (eqb n 3) Sending
    (pick (eqb n 4) Receiving
    (pick (eqb n 5) Moving Done)))))

abbrev pub state_number : TaskState → ℕ
state_number Unborn = 0
state_number Ready = 1
state_number Waiting = 2
state_number Sending = 3
state_number Receiving = 4
state_number Moving = 5
state_number Done = 6

-- a word: level 0 in the lowest 16 bits
unfoldable pub word_of : ℕ → Word
word_of v = levels (low16 v) (v / 65536 % 65536) (v / 4294967296 % 65536) (v / 281474976710656 % 65536)

abbrev pub word_number : Word → ℕ
word_number w = w.0 + 65536 * w.1 + 4294967296 * w.2 + 281474976710656 * w.3

-- the same with another level 0, from its number
abbrev pub first_number : ℕ → ℕ → ℕ
first_number v n = 65536 * (v / 65536 % 281474976710656) + n

-- a task is three numbers, the second its children and the third its word; of the lowest eight bits of the first, the highest is its mark
unfoldable pub task_of : ℕ → ℕ → ℕ → Task
task_of v children word =
    record {
      state = state_of (v % 128);
      processor = processor_id (v / 256 % 256);
      pc = byte2 v;
      origin = hint (processor_id (byte3 v)) (v / 4294967296 % 65536);
      word = word_of word;
      overflow = eqb (v / 128 % 2) 1;
      moves = v / 281474976710656 % 65536;
      children = children;
    }

abbrev pub task_word : Task → ℕ
task_word x =
    state_number x.state + 128 * bit x.overflow + 256 * x.processor.0 + 65536 * x.pc + 16777216 * x.origin.processor.0 + 4294967296 * x.origin.moves + 281474976710656 * x.moves

-- the desk at which a task is ready, by its first number; 0 where it is not ready
abbrev pub ready_desk : ℕ → ℕ
ready_desk v = pick (eqb (v % 128) 1) (v / 256 % 256) 0

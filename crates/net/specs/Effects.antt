-- What taking a label does.
use Rattle.std.specs.Prelude.{Bool, true, ◌&&◌, ◌||◌, [], ◌∷◌, ◌++◌, suc, eqb}
use Rattle.base.specs.Choice.{pick}
use Rattle.plan.specs.declared.TaskId.{TaskId}
use Rattle.plan.specs.declared.ChannelId.{ChannelId}
use Rattle.plan.specs.declared.Instruction.{Instruction}
use Rattle.plan.specs.declared.Word.{Word}
use Rattle.plan.specs.Numbers.{task_id}
use Rattle.plan.specs.Words.{set_word, add_word}
use Rattle.plan.specs.Kinds.{op_set, op_add}
use Rattle.plan.specs.Programs.{Programs}
use Rattle.plan.specs.Users.{sender_of, receiver_of}
use Rattle.net.specs.States.{Net, at_task, at_channel}
use Rattle.net.specs.Labels.{Label, own, pass, is_create}
use Rattle.net.specs.Guards.{next_of}

-- who is born after instruction i, and the word and the mark then of the task that does it
unfoldable pub born_after : Instruction → (TaskId → Bool) → TaskId → Bool
born_after i born = pick (is_create i) (at_task born (task_id i.operand) true) born

unfoldable pub word_after : Instruction → Word → Word
word_after i w = pick (eqb i.opcode op_set) (set_word w i) (pick (eqb i.opcode op_add) (add_word w i).word w)

-- to word w it is an add whose sum goes over the top
abbrev pub is_overflow : Instruction → Word → Bool
is_overflow i w = eqb i.opcode op_add && (add_word w i).overflow

unfoldable pub overflow_after : Instruction → Word → Bool → Bool
overflow_after i w b = b || is_overflow i w

-- the state after task t's own instruction i
unfoldable pub after_own : Net → TaskId → Instruction → Net
after_own s t i =
    record {
      born = born_after i s.born;
      completed = at_task s.completed t (suc (s.completed t));
      word = at_task s.word t (word_after i (s.word t));
      overflow = at_task s.overflow t (overflow_after i (s.word t) (s.overflow t));
      passed = s.passed;
    }

-- the state after the word of task a has passed channel c to task b: both have completed their instruction
unfoldable pub after_pass : Net → ChannelId → TaskId → TaskId → Net
after_pass s c a b =
    record {
      born = s.born;
      completed = at_task (at_task s.completed a (suc (s.completed a))) b (suc (s.completed b));
      word = at_task s.word b (s.word a);
      overflow = s.overflow;
      passed = at_channel s.passed c (s.passed c ++ (s.word a ∷ []));
    }

-- the state after a label
unfoldable pub effect : Programs → Net → Label → Net
effect m s (own t) = after_own s t (next_of m s t)
effect m s (pass c) = after_pass s c (sender_of m c) (receiver_of m c)

-- When a plan is refused, 2 to 6. "Each number is tested over the whole plan before the next."
use Rattle.std.specs.Prelude.{ℕ, Bool, false, not, ◌&&◌, ◌||◌, [], ◌∷◌, length, ◌==◌, nat_le, Ok, Err}
use Rattle.base.specs.Choice.{pick, unless, within}
use Rattle.base.specs.Range.{up_to}
use Rattle.base.specs.Lists.{every}
use Rattle.plan.specs.declared.Instruction.{Instruction}
use Rattle.plan.specs.Answers.{PlanAnswer}
use Rattle.plan.specs.declared.Refusal.TheVariants.{BadLayout, BadInstruction, BadFinish, BadCreate, BadChannel}
use Rattle.plan.specs.Kinds.{op_create, op_sync, op_finish, op_send, op_receive, op_set, op_add, is_finish}
use Rattle.plan.specs.Programs.{Program, Programs}
use Rattle.plan.specs.Users.{users, one_task, share, one_end, only_lower}

-- "tasks 1 to 64, .. 1 to 64 instructions a task"
abbrev pub size_ok : ℕ → Bool
size_ok n = within 1 64 n

-- "2, .. T or a count out of range"
unfoldable pub sizes_ok : Programs → Bool
sizes_ok m = size_ok (length m) && every (λ g. size_ok (length g)) m

-- "The second byte of set and add, 0 to 3, says which one is meant; for other kinds it stays zero.": the highest of an instruction of kind k
abbrev pub highest_level : ℕ → ℕ
highest_level k = pick (k == op_set) 3 (pick (k == op_add) 3 0)

-- "3, .. second byte not zero", which for set and add is "a second byte above 3"
abbrev pub level_ok : Instruction → Bool
level_ok i = nat_le i.level (highest_level i.opcode)

-- "3, kind unknown .. or argument out of range", in a plan of n tasks
unfoldable pub operand_ok : ℕ → Instruction → Bool
operand_ok n i =
    pick (i.opcode == op_create) (within 2 n i.operand)
    (pick (i.opcode == op_sync) (i.operand == 0)
    (pick (i.opcode == op_finish) (i.operand == 0)
    (pick (i.opcode == op_send) (within 1 128 i.operand)
    (pick (i.opcode == op_receive) (within 1 128 i.operand)
    (pick (i.opcode == op_set) (within 0 65535 i.operand)
    (pick (i.opcode == op_add) (within 0 65535 i.operand)
    false))))))

abbrev pub instruction_ok : ℕ → Instruction → Bool
instruction_ok n i = level_ok i && operand_ok n i

unfoldable pub instructions_ok : Programs → Bool
instructions_ok m = every (every (instruction_ok (length m))) m

-- "4, finish not exactly the last instruction of a task"
unfoldable pub finish_ok : Program → Bool
finish_ok [] = false
finish_ok (i ∷ []) = is_finish i
finish_ok (i ∷ j ∷ g) = not (is_finish i) && finish_ok (j ∷ g)

unfoldable pub finishes_ok : Programs → Bool
finishes_ok m = every finish_ok m

-- "5, a task 2..T not created exactly once, or not by a lower number"
abbrev pub create_ok : Programs → ℕ → Bool
create_ok m u = only_lower u (users m op_create u)

unfoldable pub creates_ok : Programs → Bool
creates_ok m = up_to (length m) (λ u. nat_le u 1 || create_ok m u)

-- "6, a channel with two sending or two receiving tasks, or one task at both ends", and "a channel with only one end"
abbrev pub channel_ok : Programs → ℕ → Bool
channel_ok m c =
    one_task (users m op_send c)
    && (one_task (users m op_receive c)
    && (not (share (users m op_send c) (users m op_receive c)) && not (one_end (users m op_send c) (users m op_receive c))))

unfoldable pub channels_ok : Programs → Bool
channels_ok m = up_to 128 (channel_ok m)

-- refusals 4 to 6
unfoldable pub structure_answer : Programs → PlanAnswer
structure_answer m =
    unless (finishes_ok m) (Err BadFinish)
    (unless (creates_ok m) (Err BadCreate)
    (unless (channels_ok m) (Err BadChannel)
    (Ok tt)))

-- refusals 2 to 6 of a plan that is in no file
unfoldable pub plan_answer : Programs → PlanAnswer
plan_answer m =
    unless (sizes_ok m) (Err BadLayout)
    (unless (instructions_ok m) (Err BadInstruction)
    (structure_answer m))

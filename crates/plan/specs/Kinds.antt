-- The kinds of instruction, by name.
use Rattle.std.specs.Prelude.{ℕ, Bool, ◌&&◌, ◌==◌}
use Rattle.plan.specs.declared.Instruction.{Instruction}

-- "Kinds: 1 create (argument 2..T), 2 sync (0), 3 finish (0), 4 send (channel), 5 receive (channel), 6 set (0..65,535),
-- 7 add (0..65,535)"
abbrev pub op_create : ℕ
op_create = 1

abbrev pub op_sync : ℕ
op_sync = 2

abbrev pub op_finish : ℕ
op_finish = 3

abbrev pub op_send : ℕ
op_send = 4

abbrev pub op_receive : ℕ
op_receive = 5

abbrev pub op_set : ℕ
op_set = 6

abbrev pub op_add : ℕ
op_add = 7

abbrev pub is_finish : Instruction → Bool
is_finish i = i.opcode == op_finish

-- an instruction of kind k with argument a
abbrev pub is_use : ℕ → ℕ → Instruction → Bool
is_use k a i = i.opcode == k && i.operand == a

-- what an unused slot of a plan value holds
abbrev pub no_instruction : Instruction
no_instruction = record { opcode = 0; level = 0; operand = 0 }

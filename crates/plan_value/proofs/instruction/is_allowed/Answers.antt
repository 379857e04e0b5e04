-- `instruction::is_allowed` asks for the kind, and then for the argument.
use borrow.Author.Tests.{lt-leb, le-leb}
use Rattle.plan_value.proofs.instruction.is_allowed.Goals as goal

pub returns-then-opcode-e : goal.returns-then-opcode-e
returns-then-opcode-e c = simp (lt-leb _ _ c.if-opcode-e.true)

pub returns : goal.returns
returns c = simp (le-leb _ _ c.if-opcode-e.false, c.instruction_ok.ensures)

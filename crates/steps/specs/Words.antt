-- A run that changes nothing but a word.
use Rattle.base.specs.Choice.{pick}
use Rattle.std.specs.Prelude.{eqb}
use Rattle.plan.specs.declared.Instruction.{Instruction}
use Rattle.plan.specs.Kinds.{op_set}
use Rattle.rules.specs.declared.task.Task.{Task}
use Rattle.rules.specs.Local.{set_rule, add_rule}

-- what a set or an add leaves of its task
abbrev pub word_changed : Task → Instruction → Task
word_changed x i = pick (eqb i.opcode op_set) (set_rule x i) (add_rule x i)

-- What a run of a task finds: why it is refused, or else the task's record and its next instruction.
use Rattle.std.specs.Prelude.{List, ℕ, Result, Ok, Err}
use Rattle.plan.specs.declared.TaskId.{TaskId}
use Rattle.plan.specs.declared.Instruction.{Instruction}
use Rattle.rules.specs.declared.task.Task.{Task}
use Rattle.rules.specs.declared.step.StepRefusal.{StepRefusal}
use Rattle.rules.specs.declared.system.TaskTable.{TaskTable}
use Rattle.rules.specs.Answers.{StepAnswer}
use Rattle.rules.specs.Systems.{task_in}
use Rattle.rig_parts.specs.Fetches.{instruction_in}
use Rattle.rig_parts.specs.RunVerdicts.{run_refusal}

abbrev pub Next : Type 0
Next = Result (Task × Instruction) StepRefusal

-- this record and this instruction, where the answer is no refusal
abbrev pub unless_refused : StepAnswer → Task × Instruction → Next
unless_refused (Ok tt) k = Ok k
unless_refused (Err q) k = Err q

-- the record and the instruction, where the first tests refuse nothing
unfoldable pub next_of : List ℕ → ℕ → TaskTable → TaskId → Next
next_of codes count ts t =
    let x = task_in ts t in
    unless_refused (run_refusal codes count ts t) (x, instruction_in codes t x.pc)

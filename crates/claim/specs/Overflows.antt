-- Which tasks carry a mark, said of whole runs: "Adding now tells whether the sum passed 65,535 .. A task that met this, and no other, carries a
-- mark until done and after; it travels with moves". Said of the definitions of `rules` and of the statement alone.
use Rattle.std.specs.Prelude.{◌≡◌, Bool, false, ◌&&◌, ◌||◌, List, [], ◌∷◌, ℕ, ◌≤◌, eqb, Ok}
use Rattle.plan.specs.declared.Plan.{Plan}
use Rattle.plan.specs.declared.TaskId.{TaskId}
use Rattle.plan.specs.Kinds.{op_add}
use Rattle.plan.specs.Words.{add_word}
use Rattle.plan.specs.Programs.{programs}
use Rattle.plan.specs.Refusals.{plan_answer}
use Rattle.rules.specs.declared.step.Step.{Step}
use Rattle.rules.specs.declared.system.System.{System}
use Rattle.rules.specs.Answers.{is_accepted}
use Rattle.rules.specs.Systems.{task_at}
use Rattle.rules.specs.Runs.{next_of}
use Rattle.rules.specs.Starts.{started}
use Rattle.rules.specs.Steps.{is_run, step_answer, step}
use Rattle.claim.specs.Statement.{from}

-- task t's next instruction is an add whose sum passes 65,535
abbrev pub adds_over : System → TaskId → Bool
adds_over r t = eqb (next_of r t).opcode op_add && (add_word (task_at r t).word (next_of r t)).overflow

-- this step is an accepted run of task t that executes such an add
abbrev pub overflows : TaskId → System → Step → Bool
overflows t r s = is_run s && (eqb s.task t.0 && (is_accepted (step_answer r s) && adds_over r t))

-- some step of the list is, one after the other
unfoldable pub has_overflowed : TaskId → System → List Step → Bool
has_overflowed t r [] = false
has_overflowed t r (s ∷ ss) = overflows t r s || has_overflowed t (step r s).system ss

-- `marked_exactly`: for every accepted plan, 1 to 6 desks, every list of steps and every task
abbrev pub MarkedExactly : Type 0
MarkedExactly =
    (n : ℕ) (p : Plan) (ss : List Step) → 1 ≤ n → n ≤ 6 → plan_answer (programs p) ≡ Ok tt → (t : TaskId)
    → (task_at (from n p ss).system t).overflow ≡ has_overflowed t (started n p) ss

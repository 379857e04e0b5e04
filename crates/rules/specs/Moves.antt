-- "Move: a ready task from d to e".
use Rattle.std.specs.Prelude.{Bool, not, ℕ, ◌+◌, eqb, Ok, Err}
use Rattle.base.specs.Choice.{unless}
use Rattle.plan.specs.declared.TaskId.{TaskId}
use Rattle.plan.specs.declared.ProcessorId.{ProcessorId}
use Rattle.rules.specs.declared.task.Task.{Task}
use Rattle.rules.specs.declared.task.TaskState.TheVariants.{Ready}
use Rattle.rules.specs.declared.channel.Cell.{Cell}
use Rattle.rules.specs.declared.message.Message.TheVariants.{Migration}
use Rattle.rules.specs.declared.rule.Posting.TheVariants.{Single}
use Rattle.rules.specs.Answers.{StepAnswer}
use Rattle.rules.specs.declared.step.StepRefusal.TheVariants.{NoTask, NotReady, NetworkFull, NoProcessor, AlreadyThere, MovesSpent}
use Rattle.rules.specs.declared.system.System.{System}
use Rattle.rules.specs.Numbers.{task_number_ok, processor_ok, most_moves}
use Rattle.rules.specs.Hints.{hint}
use Rattle.rules.specs.Tasks.{is_in, is_at, departed}
use Rattle.rules.specs.Cells.{with_travelling}
use Rattle.rules.specs.Systems.{task_at, with_task}
use Rattle.rules.specs.Effects.{Effect, changed_posting, for_receiving, for_sending}
use Rattle.rules.specs.Starts.{located, pointed}
use Rattle.rules.specs.Runs.{fits}

-- "d's pointers for its sending channels are copied to the travelling pointers": for one channel
abbrev pub departure_sending : Cell → Cell
departure_sending x = with_travelling x x.entry.hint

-- "Its count goes up by one; d's pointers for its receiving channels become (e, new count); carried offers stay with their channels; d's
-- pointers for its sending channels are copied ..; one mover letter leaves."; the pointer for parents is set as `Starts` says
unfoldable pub moved : System → TaskId → ProcessorId → Effect
moved r t e =
    let x = task_at r t in
    let d = x.processor in
    changed_posting
    (for_sending (for_receiving (pointed (with_task r t (departed x)) d t (hint e (x.moves + 1))) t d (located e (x.moves + 1))) t d departure_sending)
    (Single (Migration e t))

-- "Move: 10; 15, desk outside the rig; 11; 16, already there; 17, living children; 18, move count 9,999; 13."; "A ready task with living children
-- may now move .. Refusal 17 never occurs now.": task t of so many, with record x, would leave for desk e of so many
abbrev pub move_tests : ℕ → ℕ → TaskId → Task → ProcessorId → Bool → StepAnswer
move_tests tasks processors t x e fitting =
    unless (task_number_ok tasks t) (Err NoTask)
    (unless (processor_ok processors e) (Err NoProcessor)
    (unless (is_in Ready x) (Err NotReady)
    (unless (not (is_at e x)) (Err AlreadyThere)
    (unless (not (eqb x.moves most_moves)) (Err MovesSpent)
    (unless fitting (Err NetworkFull)
    (Ok tt))))))

-- of the rig
unfoldable pub move_answer : System → TaskId → ProcessorId → StepAnswer
move_answer r t e = move_tests r.plan.tasks r.processors t (task_at r t) e (fits r (moved r t e))

-- What tablets and the driver show of a task.
use Rattle.std.specs.Prelude.{Result, Ok, Err}
use Rattle.base.specs.Choice.{unless}
use Rattle.base.specs.Sets.{size}
use Rattle.plan.specs.declared.TaskId.{TaskId}
use Rattle.rules.specs.declared.task.Task.{Task}
use Rattle.rules.specs.declared.step.StepRefusal.{StepRefusal}
use Rattle.rules.specs.declared.step.StepRefusal.TheVariants.{BadSystem, NoTask}
use Rattle.rules.specs.declared.system.System.{System}
use Rattle.rules.specs.declared.view.TabletView.{TabletView}
use Rattle.rules.specs.declared.view.DriverView.{DriverView}
use Rattle.rules.specs.Answers.{TabletAnswer, DriverAnswer}
use Rattle.rules.specs.Numbers.{task_number_ok}
use Rattle.rules.specs.Systems.{task_at}
use Rattle.rules.specs.Sound.{system_ok}

-- "Front-of-house tablets show the task record: number, state, desk and place."
abbrev pub tablet_view : TaskId → Task → TabletView
tablet_view t x = record { task = t; state = x.state; processor = x.processor; pc = x.pc }

-- "The driver shows the same record with word and children"
abbrev pub driver_view : TaskId → Task → DriverView
driver_view t x = record { tablet = tablet_view t x; word = x.word; children = x.children; living = size 64 x.children }

-- "either view refuses by 9, then by 10": a view of task t of the rig, or what refuses it
abbrev pub viewed : {A : Type 0} → System → TaskId → A → Result A StepRefusal
viewed r t shown = unless (system_ok r) (Err BadSystem) (unless (task_number_ok r.plan.tasks t) (Err NoTask) (Ok shown))

unfoldable pub tablet_of : System → TaskId → TabletAnswer
tablet_of r t = viewed r t (tablet_view t (task_at r t))

unfoldable pub driver_of : System → TaskId → DriverAnswer
driver_of r t = viewed r t (driver_view t (task_at r t))

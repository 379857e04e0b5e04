-- The counts of a list of steps, and the three parts of a panel's list.
use Rattle.std.specs.Prelude.{List, ℕ, suc, eqb}
use Rattle.base.specs.Choice.{pick}
use Rattle.base.specs.Range.{joined}
use Rattle.base.specs.Lists.{table}
use Rattle.rules.specs.declared.step.Step.{Step}
use Rattle.rules.specs.declared.system.System.{System}
use Rattle.rules.specs.Steps.{run_step, deliver_step, move_step}
use Rattle.rules.specs.Panel.{answering}

-- how many of the steps get each of the numbers 0 to 26
unfoldable pub tallied : System → List Step → List ℕ
tallied r ss = table 27 (λ a. answering r a ss)

-- so many steps that all get number q
abbrev pub all_get : ℕ → ℕ → List ℕ
all_get q n = table 27 (λ a. pick (eqb q a) n 0)

-- runs of tasks 1 .. m, deliveries at 1 .. p, moves of task t to desks 1 .. n, and of tasks 1 .. m
abbrev pub runs : ℕ → List Step
runs m = table m (λ t. run_step (suc t))

abbrev pub deliveries : ℕ → List Step
deliveries p = table p (λ k. deliver_step (suc k))

abbrev pub moves_of : ℕ → ℕ → List Step
moves_of t n = table n (λ d. move_step t (suc d))

abbrev pub moves : ℕ → ℕ → List Step
moves m n = joined m (λ t. moves_of (suc t) n)

-- The net of a plan as a machine, its runs from the start, and how much is left to do.
use Rattle.std.specs.Prelude.{List, ℕ, suc, ◌-◌, length}
use Rattle.base.specs.Range.{sum_below}
use Rattle.net.specs.Machines.{Machine, Run}
use Rattle.plan.specs.Numbers.{task_id}
use Rattle.plan.specs.Programs.{Programs}
use Rattle.net.specs.States.{Net, start_net}
use Rattle.net.specs.Labels.{Label}
use Rattle.net.specs.Guards.{program_for, enabled}
use Rattle.net.specs.Effects.{effect}

-- the machine
abbrev pub net : Programs → Machine Net Label
net m = record { enabled = enabled m; effect = effect m }

-- s is reached from the start by these labels
abbrev pub Reached : Programs → List Label → Net → Type 0
Reached m ls s = Run (net m) start_net ls s

-- how many instructions are not completed
unfoldable pub remaining : Programs → Net → ℕ
remaining m s = sum_below (length m) (λ k. length (program_for m (task_id (suc k))) - s.completed (task_id (suc k)))

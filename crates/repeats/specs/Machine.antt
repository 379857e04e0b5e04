-- A plan of the new edition as a machine: the machine that plans have without desks, with another way of going on. Its labels are the same, and a label may
-- be taken when it may there; a repeat and its end are instructions of a task's own that touch no word and wait for nobody. A create stands in
-- no repeat, so that the children created so far are those of the creates before a task's place.
use Rattle.std.specs.Prelude.{List, ℕ}
use Rattle.plan.specs.declared.TaskId.{TaskId}
use Rattle.plan.specs.Programs.{Programs}
use Rattle.plan.specs.RepeatPlaces.{Place, place, go_on}
use Rattle.net.specs.Machines.{Machine, Run}
use Rattle.net.specs.States.{Net, start_net, at_task}
use Rattle.net.specs.Labels.{Label, own, pass}
use Rattle.net.specs.Guards.{program_for, enabled}
use Rattle.net.specs.Effects.{effect}

-- what the net keeps, where `completed` is a task's place; and the rounds that are left
pub record Repeated : Type 0 where
  pub net : Net
  pub rounds : TaskId → ℕ

-- at the start every task is outside every repeat
unfoldable pub start_repeated : Repeated
start_repeated = record { net = start_net; rounds = λ t. 0 }

abbrev pub place_in : Repeated → TaskId → Place
place_in s t = place (s.net.completed t) (s.rounds t)

-- the net with task t elsewhere
abbrev pub moved_to : Net → TaskId → ℕ → Net
moved_to n t k =
    record { born = n.born; completed = at_task n.completed t k; word = n.word; overflow = n.overflow; passed = n.passed }

-- what a label does is what it does without repeats, but for where a task goes on after an instruction of its own
unfoldable pub repeat_effect : Programs → Repeated → Label → Repeated
repeat_effect m s (own t) =
    let p = go_on (program_for m t) (place_in s t) in
    record { net = moved_to (effect m s.net (own t)) t p.at; rounds = at_task s.rounds t p.rounds }
repeat_effect m s (pass c) = record { net = effect m s.net (pass c); rounds = s.rounds }

abbrev pub repeat_machine : Programs → Machine Repeated Label
repeat_machine m = record { enabled = λ s l. enabled m s.net l; effect = repeat_effect m }

-- s is reached from the start by these labels
abbrev pub RepeatReached : Programs → List Label → Repeated → Type 0
RepeatReached m ls s = Run (repeat_machine m) start_repeated ls s

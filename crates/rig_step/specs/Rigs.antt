-- A rig that 9 does not refuse on what is lent, with its mail.
use Rattle.std.specs.Prelude.{◌≡◌, List, ℕ}
use Rattle.rules.specs.declared.message.Network.{Network}
use Rattle.rules.specs.declared.step.Report.{Report}
use Rattle.rules.specs.declared.step.Step.{Step}
use Rattle.rig_parts.specs.Facts.{Facts}
use Rattle.rig_parts.specs.Turns.{Rig, turn_of}
use Rattle.plan_index.specs.user_table.Users.{Indexed}
use Rattle.board.specs.declared.act.Size.{Size}
use Rattle.board.specs.Lent.{Lent, Whole, tasks_of, kept_of}
use Rattle.board.specs.Rigs.{facts_in}

pub record RigWith (codes numbers users : List ℕ) (n : Size) (k : Network) (l : Lent) : Type 0 where
  pub rig : Rig (facts_in n.tasks codes numbers users) n.processors (tasks_of l) k (kept_of l)
  pub messages : n.used ≡ k.used
  pub whole : Whole l.board
  pub indexed : Indexed users

-- what a step says there
abbrev pub said_of : Facts → ℕ → Lent → Network → Step → Report
said_of f n l k x = (turn_of f n (tasks_of l) k (kept_of l) x).report

-- what the step x leaves there: its report, the mail then, and on what is lent the other parts
pub record TurnedOn (f : Facts) (n : ℕ) (l : Lent) (k : Network) (x : Step) (l' : Lent) (q : Report) (k' : Network) : Type 0 where
  pub report : q ≡ (turn_of f n (tasks_of l) k (kept_of l) x).report
  pub tasks : tasks_of l' ≡ (turn_of f n (tasks_of l) k (kept_of l) x).tasks
  pub network : k' ≡ (turn_of f n (tasks_of l) k (kept_of l) x).network
  pub kept : kept_of l' ≡ (turn_of f n (tasks_of l) k (kept_of l) x).kept
  pub whole : Whole l'.board

-- What the steps of a file begin with.
use Rattle.std.specs.Prelude.{◌≡◌, List, [], ◌∷◌, ℕ, ◌/◌, ◌≤◌, length}
use Rattle.rules.specs.declared.message.Network.{Network}
use Rattle.rig_parts.specs.Turns.{Rig}
use Rattle.plan_index.specs.user_table.Users.{Indexed}
use Rattle.board.specs.declared.act.Size.{Size}
use Rattle.board.specs.Lent.{Lent, Whole, tasks_of, kept_of}
use Rattle.board.specs.Rigs.{facts_in}

-- a rig that 9 does not refuse, with the index of its plan, few steps, and nothing written yet
pub record Begins (codes numbers users : List ℕ) (size : Size) (network : Network) (l : Lent) (steps progress : List ℕ) : Type 0 where
  pub rig : Rig (facts_in size.tasks codes numbers users) size.processors (tasks_of l) network (kept_of l)
  pub whole : Whole l.board
  pub indexed : Indexed users
  pub few : length steps / 4 ≤ 2000
  pub blank : progress ≡ 0 ∷ 0 ∷ []

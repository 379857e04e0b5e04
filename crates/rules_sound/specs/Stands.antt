-- A rig in the course of a step, and what the step has done so far.
use Rattle.std.specs.Prelude.{◌≡◌, ℕ}
use Rattle.plan.specs.declared.Plan.{Plan}
use Rattle.rules.specs.declared.message.Network.{Network}
use Rattle.rules.specs.declared.rule.Posting.{Posting}
use Rattle.rules.specs.declared.system.System.{System}
use Rattle.rules.specs.Effects.{Effect}
use Rattle.rules_laws.specs.Shapes.{Shaped}
use Rattle.rules_sound.specs.Sound.{Holds}

-- it has the desks, the plan and the mail that it had, its arrays have their sizes, and its parts are fine
pub record Stands (n : ℕ) (p : Plan) (k : Network) (r : System) : Type 0 where
  pub processors : r.processors ≡ n
  pub plan : r.plan ≡ p
  pub network : r.network ≡ k
  pub shaped : Shaped r
  pub holds : Holds n p r

-- a rig before a step
abbrev pub Whole : System → Type 0
Whole r = Stands r.processors r.plan r.network r

-- what a step has done, before its letters join the mail; Q is to hold of what is posted
pub record FineEffect (n : ℕ) (p : Plan) (k : Network) (Q : Posting → Type 0) (e : Effect) : Type 0 where
  pub system : Stands n p k e.system
  pub posting : Q e.posting

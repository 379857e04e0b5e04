-- A rig on what is lent, with its mail and its last choices; what turns and calls make of it, and the steps that they write.
use Rattle.std.specs.Prelude.{◌≡◌, Bool, true, List, map, ℕ, ◌≤◌, length, replicate}
use Rattle.plan.specs.declared.Plan.{Plan}
use Rattle.rules.specs.declared.message.Network.{Network}
use Rattle.rules.specs.declared.system.System.{System}
use Rattle.rules.specs.Sound.{system_ok}
use Rattle.rules.specs.Starts.{started}
use Rattle.rules.specs.Steps.{quiescent}
use Rattle.rules.specs.Dispatch.{Turned, step_of}
use Rattle.rules_laws.specs.Shapes.{Shaped}
use Rattle.plan_index.specs.user_table.Users.{Indexed}
use Rattle.rig_parts.specs.Facts.{Facts, facts_of, kept_in}
use Rattle.board.specs.declared.act.Size.{Size}
use Rattle.board.specs.Lent.{Lent, Whole, tasks_of, kept_of}
use Rattle.board.specs.Rigs.{facts_in}
use Rattle.run.specs.all_steps.Writes.{Written, LinesNext, filled_by, whole_by}
use Rattle.run.specs.file.Begins.{Begins}
use Rattle.dispatch.specs.declared.choose.start.Chosen.{Chosen}
use Rattle.dispatch.specs.Calls.{step_bytes, Called, called}

-- rig r, which 9 does not refuse, with the index of its plan
pub record On (codes numbers users : List ℕ) (size : Size) (k : Network) (l : Lent) (last : List ℕ) (r : System) : Type 0 where
  pub shaped : Shaped r
  pub sound : system_ok r ≡ true
  pub facts_of_lem : facts_in size.tasks codes numbers users ≡ facts_of r.plan
  pub processors : size.processors ≡ r.processors
  pub tasks : tasks_of l ≡ r.tasks
  pub kept : kept_of l ≡ kept_in r
  pub network : k ≡ r.network
  pub chosen : last ≡ r.chosen
  pub whole : Whole l.board
  pub indexed : Indexed users

-- some rig, with these last choices
pub record SomeBy (codes numbers users : List ℕ) (size : Size) (k : Network) (l : Lent) (last : List ℕ) : Type 0 where
  pub system : System
  pub on : On codes numbers users size k l last system

-- steps can be written
abbrev pub Room : List ℕ → List ℕ → Type 0
Room progress out = (length progress ≡ 2) × (filled_by progress ≤ length out)

-- the rig after a turn, and its step written
pub record TurnMade (codes numbers users : List ℕ) (size : Size) (o : Turned) (k : Network) (l : Lent) (last progress out progress' out' : List ℕ) : Type 0 where
  pub on : On codes numbers users size k l last o.system
  pub lines : LinesNext (map step_bytes (step_of o.turn)) progress out progress' out'

-- the steps that calls chose are written as far as they fit; and where they all do, it is known whether the rig is at rest
pub record Ended (c : Called) (before : List ℕ) (filled : ℕ) (whole rest : Bool) (after : List ℕ) : Type 0 where
  pub written : Written (map step_bytes c.steps) before filled whole after
  pub rests : whole ≡ true → rest ≡ quiescent c.system

-- no last choice yet
abbrev pub no_choices : List ℕ
no_choices = replicate 6 0

-- the calls of whatever rig was lent
abbrev pub CallsOn : List ℕ → List ℕ → List ℕ → Size → Network → Lent → List ℕ → List ℕ → Bool → List ℕ → Type 0
CallsOn codes numbers users size k l before progress rest after =
    (r : System) → On codes numbers users size k l no_choices r → Ended (called 12006 r 0) before (filled_by progress) (whole_by progress) rest after

-- the steps chosen from the start of whatever plan f is derived of
abbrev pub ChosenOf : ℕ → Facts → List ℕ → Chosen → List ℕ → Type 0
ChosenOf n f before c after = (p : Plan) → Begins n p f → Ended (called 12006 (started n p) 0) before c.filled c.whole c.rest after

-- What a function supposes of what it is lent, and what it says of the rest: there is some rest beside which the parts are those of a rig
-- that 9 does not refuse; and whatever the rest is, it stays.
use Rattle.std.specs.Prelude.{◌≡◌, Bool, true, false, List, ℕ, Ok}
use Rattle.rules.specs.declared.message.Message.{Message}
use Rattle.rules.specs.declared.step.Step.{Step}
use Rattle.rules.specs.Sound.{message_ok}
use Rattle.rig_parts.specs.Facts.{Facts, facts, PartsOf}
use Rattle.rig_parts.specs.Openings.{opened_in}
use Rattle.plan_index.specs.user_table.Users.{senders_of, receivers_of, parents_of, Indexed}
use Rattle.board.specs.declared.act.Act.{Act}
use Rattle.board.specs.declared.act.Size.{Size}
use Rattle.board.specs.Lent.{Lent, lent, Whole, tasks_of, kept_of}
use Rattle.board.specs.Acted.{Acted, act_of, plain_act}
use Rattle.board.specs.Verdicts.{step_verdict}

-- what is derived of a plan, with who uses what in one table
abbrev pub facts_in : ℕ → List ℕ → List ℕ → List ℕ → Facts
facts_in count codes numbers users = facts count codes numbers (senders_of users) (receivers_of users) (parents_of users)

-- what is lent is a rig that 9 does not refuse, with the index of its plan
pub record RigOn (codes numbers users : List ℕ) (n : Size) (l : Lent) : Type 0 where
  pub whole : Whole l.board
  pub parts : PartsOf (facts_in n.tasks codes numbers users) n.processors (tasks_of l) (kept_of l) n.used
  pub indexed : Indexed users

-- a letter can be opened: no numbers and counts are lent for that
pub record Opens (codes users : List ℕ) (l : Lent) (m : Message) : Type 0 where
  pub numbers : List ℕ
  pub size : Size
  pub rig : RigOn codes numbers users size l
  pub ok : message_ok size.processors size.tasks m ≡ true

-- it was opened, and what it does was done
abbrev pub Opened : List ℕ → List ℕ → Message → Lent → Act → Lent → Type 0
Opened codes users m l r l' =
    (count : ℕ) (numbers : List ℕ)
    → Acted (senders_of users) (receivers_of users) (Ok (opened_in (facts_in count codes numbers users) (tasks_of l) (kept_of l) m)) l r l'

-- this is what opening it would do
abbrev pub Opening : List ℕ → List ℕ → Message → Lent → Act → Type 0
Opening codes users m l r =
    (count : ℕ) (numbers : List ℕ)
    → r ≡ act_of (Ok (opened_in (facts_in count codes numbers users) (tasks_of l) (kept_of l) m))

-- a task can run, by the board alone
pub record RunsOn (codes : List ℕ) (n : Size) (board : List ℕ) : Type 0 where
  pub numbers : List ℕ
  pub users : List ℕ
  pub hintprocessors : List ℕ
  pub hintmoves : List ℕ
  pub heldprocessors : List ℕ
  pub heldnumbers : List ℕ
  pub notes : List ℕ
  pub rig : RigOn codes numbers users n (lent hintprocessors hintmoves heldprocessors heldnumbers notes board)

-- the step was carried out on the board alone, or nothing was
abbrev pub Worded : List ℕ → Size → Step → List ℕ → Bool → List ℕ → Type 0
Worded codes n x board r board' =
    (r ≡ false → board' ≡ board)
    × (r ≡ true → (numbers users hintprocessors hintmoves heldprocessors heldnumbers notes : List ℕ)
    → let l = lent hintprocessors hintmoves heldprocessors heldnumbers notes board in
    Acted (senders_of users) (receivers_of users)
    (step_verdict (facts_in n.tasks codes numbers users) n.processors (tasks_of l) (kept_of l) n.used x)
    l plain_act
    (lent hintprocessors hintmoves heldprocessors heldnumbers notes board'))

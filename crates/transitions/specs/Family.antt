-- Where a task is, and what holds of a child and its parent.
use Rattle.std.specs.Prelude.{◌≡◌, true, false, not, Bool, List, ℕ, ◌+◌, ◌≤◌, length}
use Rattle.base.specs.Sets.{member}
use Rattle.plan.specs.declared.TaskId.{TaskId}
use Rattle.plan.specs.Programs.{Programs}
use Rattle.plan.specs.Users.{parent_of}
use Rattle.rules.specs.declared.task.TaskState.TheVariants.{Unborn, Moving, Done}
use Rattle.rules.specs.declared.task.Task.{Task}
use Rattle.rules.specs.Tasks.{is_in}
use Rattle.channel.specs.Bags.{In}
use Rattle.transitions.specs.Progress.{flag}
use Rattle.rules.specs.declared.channel.Hint.{Hint}
use Rattle.rules.specs.declared.system.ParentEntry.{ParentEntry}
use Rattle.channel.specs.Hints.{Way, Coming, Table}

-- a task of a rig of n desks, its history, what each desk keeps for it as a parent, and where its mover letters go to
pub record Placed (n : ℕ) (history : ℕ → ℕ) (x : Task) (entries : ℕ → ParentEntry) (movers : List ℕ) : Type 0 where
  -- one mover letter while it is moving, none otherwise; it goes to the desk where the task was sent last
  pub one_mover : length movers ≡ flag (is_in Moving x)
  pub address : (d : ℕ) → In d movers → d ≡ history x.moves
  -- the desks' pointers to it
  pub table : Table n history x.moves x.processor.0 (λ d. (entries d).hint)
  -- a desk's pointer names that desk only while the task stands there
  pub self : (d : ℕ) → 1 ≤ d → (entries d).hint.processor.0 ≡ d → x.processor.0 ≡ d

-- child u is held where its parent was sent last
abbrev pub is_held : TaskId → (ℕ → ℕ) → Task → (ℕ → ParentEntry) → Bool
is_held u history parent entries = member u.0 (entries (history parent.moves)).held

-- task u with its parent, the parent's history, what each desk keeps for the parent, and the pointers along which u's ended letters go
pub record Child (u : TaskId) (history : ℕ → ℕ) (parent child : Task) (entries : ℕ → ParentEntry) (ended : List Hint) : Type 0 where
  -- it is in the set if it is born and not done, or done with an ended letter under way or a held place
  pub living : flag (member u.0 parent.children) + flag (is_in Done child)
      ≡ flag (not (is_in Unborn child)) + (length ended + flag (is_held u history parent entries))
  -- one of the two, and never both
  pub later : length ended + flag (is_held u history parent entries) ≤ flag (is_in Done child)
  -- it is held only where its parent is about to arrive
  pub held_for : (x : ℕ) → member u.0 (entries x).held ≡ true → Coming parent.processor.0 parent.moves x (history parent.moves)
  -- an ended letter goes where the parent was sent with its count, and so does the child's own pointer
  pub way : (h : Hint) → In h ended → Way history parent.moves h.processor.0 h.moves
  pub own : is_in Unborn child ≡ false → Way history parent.moves child.origin.processor.0 child.origin.moves
  -- until the parent leaves, it is where its child was created
  pub own_here : is_in Unborn child ≡ false → child.origin.moves ≡ parent.moves → parent.processor.0 ≡ child.origin.processor.0

-- only a task's own children are in its set
abbrev pub Kin : Programs → (TaskId → Task) → Type 0
Kin m tasks = (p u : TaskId) → 1 ≤ u.0 → member u.0 (tasks p).children ≡ true → parent_of m u ≡ p
